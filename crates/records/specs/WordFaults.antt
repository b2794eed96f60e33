-- The numbers and places of a word's faults.
use Rattle.std.specs.Prelude.{ℕ}
use Rattle.records.specs.declared.place.Place.{Place}
use Rattle.records.specs.declared.word_fault.WordFault.{WordFault}
use Rattle.records.specs.declared.word_fault.WordFault.TheVariants.{OutOfRange, NoNumber}

-- the number by which a fault is printed
abbrev pub word_number : WordFault → ℕ
word_number (OutOfRange place) = 12
word_number (NoNumber place) = 32

-- where it was found
abbrev pub word_place : WordFault → Place
word_place (OutOfRange place) = place
word_place (NoNumber place) = place
