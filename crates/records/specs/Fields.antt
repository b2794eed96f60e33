-- The fields of a record: figures one space apart, each within its range.
use Rattle.std.specs.Prelude.{◌≡◌, ℕ, ◌+◌, ◌^◌, ◌<◌, ◌≤◌, ◌⊎◌, List, [], ◌∷◌, ◌++◌, map, length, decimal, slice_index, slice_index_or}
use Rattle.figures.specs.declared.ranges.Range.{Range}
use Rattle.figures.specs.Ranges.{Within, missing}
use Rattle.printed.specs.Texts.{spaced}
use Rattle.records.specs.declared.word_fault.WordFault.TheVariants.{OutOfRange, NoNumber}
use Rattle.records.specs.declared.record_fault.RecordFault.{RecordFault}
use Rattle.records.specs.declared.record_fault.RecordFault.TheVariants.{Word, LawBroken, NoMark, FieldCount, LongLine}
use Rattle.records.specs.Numerals.{Writes, IsNoNumber, most_digits}
use Rattle.records.specs.Words.{Lacks}

-- figures one space apart
abbrev pub figures_text : List ℕ → List ℕ
figures_text [] = []
figures_text (g ∷ gs) = spaced (decimal g) (map decimal gs)

-- figures, each ended by a space, and what follows
abbrev pub led : List ℕ → List ℕ → List ℕ
led [] text = text
led (g ∷ gs) text = decimal g ++ 32 ∷ led gs text

-- the first figures of a record: each a number within its range
pub record Good (ranges : List Range) (figures : List ℕ) : Type 0 where
  pub few : length figures ≤ length ranges
  pub short : (i : ℕ) → i < length figures → slice_index figures i < 10 ^ most_digits
  pub within : (i : ℕ) → i < length figures → Within (slice_index_or ranges i missing) (slice_index figures i)

-- all figures of a record
pub record Filled (ranges : List Range) (text : List ℕ) (figures : List ℕ) : Type 0 where
  pub good : Good ranges figures
  pub all : length figures ≡ length ranges
  pub written : text ≡ figures_text figures

-- nothing, or a space and more
abbrev pub Ended : List ℕ → Type 0
Ended [] = Unit {0}
Ended (x ∷ xs) = x ≡ 32

-- after good figures, a word that is wrong for the figure that is due
pub record WrongWord (Wrong : Range → List ℕ → Type 0) (ranges : List Range) (text : List ℕ) (field : ℕ) : Type 0 where
  pub before : List ℕ
  pub word : List ℕ
  pub tail : List ℕ
  pub good : Good ranges before
  pub due : length before < length ranges
  pub here : field ≡ length before + 1
  pub alone : Lacks 32 word
  pub ended : Ended tail
  pub written : text ≡ led before (word ++ tail)
  pub wrong : Wrong (slice_index_or ranges (length before) missing) word

-- the text ends after good figures, and more are due
pub record MissingField (ranges : List Range) (text : List ℕ) (field : ℕ) : Type 0 where
  pub before : List ℕ
  pub good : Good ranges before
  pub some : 1 ≤ length before
  pub due : length before < length ranges
  pub here : field ≡ length before + 1
  pub written : text ≡ figures_text before

-- all figures are there, and after a space there is more
pub record ExtraField (ranges : List Range) (text : List ℕ) (field : ℕ) : Type 0 where
  pub before : List ℕ
  pub more : List ℕ
  pub good : Good ranges before
  pub all : length before ≡ length ranges
  pub here : field ≡ length before + 1
  pub written : text ≡ led before more

-- no number
abbrev pub NotWritten : Range → List ℕ → Type 0
NotWritten range word = IsNoNumber word

-- a number outside its range
abbrev pub OutOf : Range → List ℕ → Type 0
OutOf range word = (n : ℕ) × Writes word n × (Within range n → ⊥)

-- what is wrong with the fields of a record: the first that is wrong from the left
abbrev pub FaultyFields : List Range → ℕ → List ℕ → RecordFault → Type 0
FaultyFields ranges n text (Word (OutOfRange p)) = WrongWord OutOf ranges text p.field × (p.«record» ≡ n)
FaultyFields ranges n text (Word (NoNumber p)) = WrongWord NotWritten ranges text p.field × (p.«record» ≡ n)
FaultyFields ranges n text (LawBroken p) = ⊥
FaultyFields ranges n text (NoMark m) = ⊥
FaultyFields ranges n text (FieldCount p) = (MissingField ranges text p.field ⊎ ExtraField ranges text p.field) × (p.«record» ≡ n)
FaultyFields ranges n text (LongLine m) = ⊥
