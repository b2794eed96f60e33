-- A record as its line writes it, and what is wrong with a line.
use Rattle.std.specs.Prelude.{◌≡◌, ℕ, List, ◌∷◌, ◌++◌, length, Ok, Err, Result}
use Rattle.records.specs.declared.kind.RecordKind.{RecordKind}
use Rattle.records.specs.declared.kind.RecordKind.TheVariants as kind
use Rattle.records.specs.declared.record.Record.{Record}
use Rattle.records.specs.declared.record.Record.TheVariants.{Calendar, Delay, Pipeline, RootStage, Assembly, BucketStage, Day}
use Rattle.records.specs.declared.record_fault.RecordFault.{RecordFault}
use Rattle.records.specs.declared.record_fault.RecordFault.TheVariants.{Word, LawBroken, NoMark, FieldCount, LongLine}
use Rattle.records.specs.Fields.{Good, Filled, FaultyFields, figures_text}
use Rattle.records.specs.Kinds.{mark_of, ranges_of, TakenApart, LacksMark}

-- the kind of a record
abbrev pub kind_of : Record → RecordKind
kind_of (Calendar fs) = kind.Calendar
kind_of (Delay fs) = kind.Delay
kind_of (Pipeline fs) = kind.Pipeline
kind_of (RootStage fs) = kind.RootStage
kind_of (Assembly fs) = kind.Assembly
kind_of (BucketStage fs) = kind.BucketStage
kind_of (Day fs) = kind.Day

-- its figures, in the order of its fields
abbrev pub figures_of : Record → List ℕ
figures_of (Calendar fs) = fs
figures_of (Delay fs) = fs
figures_of (Pipeline fs) = fs
figures_of (RootStage fs) = fs
figures_of (Assembly fs) = fs
figures_of (BucketStage fs) = fs
figures_of (Day fs) = fs

-- the line that a record writes: its mark, a space, and its figures one space apart
abbrev pub record_text : Record → List ℕ
record_text r = mark_of (kind_of r) ++ 32 ∷ figures_text (figures_of r)

-- a record whose figures are all there and in range
pub record InRange (r : Record) : Type 0 where
  pub good : Good (ranges_of (kind_of r)) (figures_of r)
  pub all : length (figures_of r) ≡ length (ranges_of (kind_of r))

-- the record that the text after a mark writes, or what is wrong with the text
abbrev pub TextRead : RecordKind → ℕ → List ℕ → Result Record RecordFault → Type 0
TextRead due n text (Ok r) = (kind_of r ≡ due) × Filled (ranges_of due) text (figures_of r)
TextRead due n text (Err fault) = FaultyFields (ranges_of due) n text fault

-- the line begins as it should, and what is wrong is in its fields
abbrev pub FieldsWrong : RecordKind → ℕ → List ℕ → RecordFault → Type 0
FieldsWrong due n line fault = (text : List ℕ) × TakenApart due line text × FaultyFields (ranges_of due) n text fault

-- what is wrong with a line where a record of this kind and number is due
abbrev pub FaultyLine : RecordKind → ℕ → List ℕ → RecordFault → Type 0
FaultyLine due n line (Word f) = FieldsWrong due n line (Word f)
FaultyLine due n line (LawBroken p) = ⊥
FaultyLine due n line (NoMark m) = LacksMark due line × (m ≡ n)
FaultyLine due n line (FieldCount p) = FieldsWrong due n line (FieldCount p)
FaultyLine due n line (LongLine m) = ⊥

-- the record that a line writes, or what is wrong with it
abbrev pub RecordRead : RecordKind → ℕ → List ℕ → Result Record RecordFault → Type 0
RecordRead due n line (Ok r) = (kind_of r ≡ due) × InRange r × (line ≡ record_text r)
RecordRead due n line (Err fault) = FaultyLine due n line fault

-- a line that a record of this kind writes is read as that record
abbrev pub ReadsBack : RecordKind → List ℕ → Result Record RecordFault → Type 0
ReadsBack due line r = (x : Record) → kind_of x ≡ due → InRange x → line ≡ record_text x → r ≡ Ok x
