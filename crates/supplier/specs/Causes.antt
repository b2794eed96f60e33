-- The numbers of causes.
use Rattle.std.specs.Prelude.{ℕ}
use Rattle.supplier.specs.declared.fault.Cause.{Cause}
use Rattle.supplier.specs.declared.fault.Cause.TheVariants.{TermSpent, OverDay, OverWindow}

abbrev pub number : Cause → ℕ
number TermSpent = 1
number OverDay = 2
number OverWindow = 3
