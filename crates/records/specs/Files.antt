-- The size of a file.
use Rattle.std.specs.Prelude.{◌≡◌, ℕ, ◌<◌, ◌≤◌, List, length, Ok, Err, Result}
use Rattle.records.specs.declared.plant_fault.PlantFault.{PlantFault}
use Rattle.records.specs.declared.plant_fault.PlantFault.TheVariants.{LongFile}

-- the most bytes of a file
abbrev pub most_file : ℕ
most_file = 65536

-- a file is refused exactly where it has more
abbrev pub Sized : List ℕ → Result (Unit {0}) PlantFault → Type 0
Sized file (Ok x) = length file ≤ most_file
Sized file (Err fault) = (most_file < length file) × (fault ≡ LongFile)
