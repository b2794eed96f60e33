-- The numbers and places of a plant's faults.
use Rattle.std.specs.Prelude.{ℕ}
use Rattle.figures.specs.declared.refusals.Refusal.{Refusal}
use Rattle.figures.specs.declared.refusals.Refusal.TheVariants.{OutOfRange, Started, Misfit, AboveLimit, LowBase, LawBroken}
use Rattle.figures.specs.Refusals.{number}
use Rattle.supplier.specs.Causes.{number as cause-number}
use Rattle.records.specs.declared.place.Place.{Place}
use Rattle.records.specs.declared.plant_fault.PlantFault.{PlantFault}
use Rattle.records.specs.declared.plant_fault.PlantFault.TheVariants.{Record, Making, LongFile, Day}
use Rattle.records.specs.RecordFaults.{record_number, record_place, whole_record}

-- the number by which a fault is printed
abbrev pub plant_number : PlantFault → ℕ
plant_number (Record fault) = record_number fault
plant_number (Making n refusal) = number refusal
plant_number LongFile = 37
plant_number (Day fault) = cause-number fault.cause

-- the field of a making's refusal: that of the figure to blame, if one is
abbrev pub refused_field : Refusal → ℕ
refused_field (OutOfRange p) = p
refused_field Started = 0
refused_field Misfit = 0
refused_field AboveLimit = 0
refused_field LowBase = 0
refused_field (LawBroken p) = p

-- where it was found
abbrev pub plant_place : PlantFault → Place
plant_place (Record fault) = record_place fault
plant_place (Making n refusal) = record { «record» = n; field = refused_field refusal }
plant_place LongFile = whole_record 0
plant_place (Day fault) = whole_record 0
