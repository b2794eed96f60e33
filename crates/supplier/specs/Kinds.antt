-- The letters of the kinds of line: P, C, D, A and S.
use Rattle.std.specs.Prelude.{ℕ}
use Rattle.supplier.specs.declared.line.Kind.{Kind}
use Rattle.supplier.specs.declared.line.Kind.TheVariants.{Pipeline, Calendar, Delay, Assembly, Stage}

abbrev pub letter : Kind → ℕ
letter Pipeline = 80
letter Calendar = 67
letter Delay = 68
letter Assembly = 65
letter Stage = 83
