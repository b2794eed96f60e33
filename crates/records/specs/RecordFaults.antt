-- The numbers and places of a record's faults.
use Rattle.std.specs.Prelude.{ℕ}
use Rattle.records.specs.declared.place.Place.{Place}
use Rattle.records.specs.declared.record_fault.RecordFault.{RecordFault}
use Rattle.records.specs.declared.record_fault.RecordFault.TheVariants.{Word, LawBroken, NoMark, FieldCount, LongLine}
use Rattle.records.specs.WordFaults.{word_number, word_place}

-- the number by which a fault is printed
abbrev pub record_number : RecordFault → ℕ
record_number (Word fault) = word_number fault
record_number (LawBroken place) = 21
record_number (NoMark n) = 31
record_number (FieldCount place) = 32
record_number (LongLine n) = 36

-- a record as a whole, which no field is to blame for
abbrev pub whole_record : ℕ → Place
whole_record n = record { «record» = n; field = 0 }

-- where it was found
abbrev pub record_place : RecordFault → Place
record_place (Word fault) = word_place fault
record_place (LawBroken place) = place
record_place (NoMark n) = whole_record n
record_place (FieldCount place) = place
record_place (LongLine n) = whole_record n
