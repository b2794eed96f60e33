-- A fault that is carried from below.
use Rattle.std.specs.Prelude.{◌+◌, min, Option}
use Rattle.std.specs.Option.{option_map}
use Rattle.supplier.specs.declared.fault.Fault.{Fault}
use Rattle.supplier.specs.Meaning.{most_layers}

-- one layer more; the most layers stand for that many or more
abbrev pub carried : Fault → Fault
carried f = record {
  cause = f.cause;
  number = f.number;
  day = f.day;
  window = f.window;
  bound = f.bound;
  sum = f.sum;
  layers = min (f.layers + 1) most_layers;
}

abbrev pub carries : Option Fault → Option Fault
carries = option_map carried
