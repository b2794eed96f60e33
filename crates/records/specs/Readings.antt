-- What a word is, and the figure that it writes.
use Rattle.std.specs.Prelude.{◌≡◌, ℕ, List, Ok, Err, Result}
use Rattle.figures.specs.declared.ranges.Range.{Range}
use Rattle.figures.specs.Ranges.{Within}
use Rattle.records.specs.declared.place.Place.{Place}
use Rattle.records.specs.declared.word.Word.{Word}
use Rattle.records.specs.declared.word.Word.TheVariants.{Mark, Number, Junk}
use Rattle.records.specs.declared.word_fault.WordFault.{WordFault}
use Rattle.records.specs.declared.word_fault.WordFault.TheVariants.{OutOfRange, NoNumber}
use Rattle.records.specs.Numerals.{Writes, IsNoNumber}

-- the word of a field
abbrev pub IsWord : List ℕ → Place → Word → Type 0
IsWord part place (Mark p at) = ⊥
IsWord part place (Number p at) = ((n : ℕ) × Writes part n) × (p.now ≡ part) × (at ≡ place)
IsWord part place (Junk p at) = IsNoNumber part × (p.now ≡ part) × (at ≡ place)

-- the figure that a part of a line writes at a place
abbrev pub ReadPart : List ℕ → Place → Range → Result ℕ WordFault → Type 0
ReadPart part place range (Ok n) = Writes part n × Within range n
ReadPart part place range (Err (NoNumber at)) = IsNoNumber part × (at ≡ place)
ReadPart part place range (Err (OutOfRange at)) = ((n : ℕ) × Writes part n × (Within range n → ⊥)) × (at ≡ place)

-- the figure that a word writes, where it is within its range
abbrev pub FigureRead : Word → Range → Result ℕ WordFault → Type 0
FigureRead (Mark part place) range r = r ≡ Err (NoNumber place)
FigureRead (Number part place) range r = ReadPart part.now place range r
FigureRead (Junk part place) range r = r ≡ Err (NoNumber place)
