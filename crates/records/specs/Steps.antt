-- The next record of a file.
use Rattle.std.specs.Prelude.{◌≡◌, ℕ, ◌<◌, List, [], ◌∷◌, ◌++◌, length, Some, None, Ok, Err, Option, Result}
use Rattle.std.specs.Borrow.{Bor}
use Rattle.records.specs.declared.kind.RecordKind.{RecordKind}
use Rattle.records.specs.declared.record.Record.{Record}
use Rattle.records.specs.declared.record_fault.RecordFault.{RecordFault}
use Rattle.records.specs.declared.record_fault.RecordFault.TheVariants.{Word, LawBroken, NoMark, FieldCount, LongLine}
use Rattle.records.specs.Lines.{FirstLine, Unended}
use Rattle.records.specs.Records.{kind_of, record_text, InRange, FaultyLine}

-- the first line of what is left is no record of this kind
abbrev pub LineWrong : RecordKind → ℕ → List ℕ → RecordFault → Type 0
LineWrong due n rest fault = (line : List ℕ) × (after : List ℕ) × FirstLine rest line after × FaultyLine due n line fault

-- what is wrong with what is left of a file, where the record with this number is due to be of this kind
abbrev pub Faulty : RecordKind → ℕ → List ℕ → RecordFault → Type 0
Faulty due n rest (Word f) = LineWrong due n rest (Word f)
Faulty due n rest (LawBroken p) = ⊥
Faulty due n rest (NoMark m) = LineWrong due n rest (NoMark m)
Faulty due n rest (FieldCount p) = LineWrong due n rest (FieldCount p)
Faulty due n rest (LongLine m) = (0 < length rest) × Unended rest × (m ≡ n)

-- The next record: what is left begins with the line that it writes; none at the end of the file.
abbrev pub Step : RecordKind → ℕ → List ℕ → Result (Option (Record × Bor (List ℕ))) RecordFault → Type 0
Step due n rest (Ok None) = rest ≡ []
Step due n rest (Ok (Some p)) = (kind_of p.0 ≡ due) × InRange p.0 × (rest ≡ record_text p.0 ++ 10 ∷ p.1.now)
Step due n rest (Err fault) = Faulty due n rest fault
