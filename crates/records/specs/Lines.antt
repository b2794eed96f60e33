-- The lines of a file, each ended by byte 10.
use Rattle.std.specs.Prelude.{◌≡◌, ℕ, ◌<◌, ◌≤◌, List, ◌∷◌, ◌++◌, length, Ok, Err, Result, ◌≢◌, slice_index}
use Rattle.std.specs.Borrow.{Bor}
use Rattle.records.specs.declared.record_fault.RecordFault.{RecordFault}
use Rattle.records.specs.declared.record_fault.RecordFault.TheVariants.{Word, LawBroken, NoMark, FieldCount, LongLine}
use Rattle.records.specs.Words.{Lacks}

-- the most bytes of a line before its end
abbrev pub most_bytes : ℕ
most_bytes = 1200

-- the first line of what is left, and what stands after its end
pub record FirstLine (rest line after : List ℕ) : Type 0 where
  pub whole : rest ≡ line ++ 10 ∷ after
  pub one : Lacks 10 line
  pub short : length line ≤ most_bytes

-- no line ends soon enough
abbrev pub Unended : List ℕ → Type 0
Unended rest = (i : ℕ) → i ≤ most_bytes → i < length rest → slice_index rest i ≢ 10

-- the first line as it is read, or what is wrong with it
abbrev pub LineRead : ℕ → List ℕ → Result (Bor (List ℕ) × Bor (List ℕ)) RecordFault → Type 0
LineRead n rest (Ok p) = FirstLine rest p.0.now p.1.now
LineRead n rest (Err (Word f)) = ⊥
LineRead n rest (Err (LawBroken p)) = ⊥
LineRead n rest (Err (NoMark m)) = ⊥
LineRead n rest (Err (FieldCount p)) = ⊥
LineRead n rest (Err (LongLine m)) = Unended rest × (m ≡ n)
