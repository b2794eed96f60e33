-- The numbers of suppliers.
use Rattle.std.specs.Prelude.{ℕ, cond, ◌&&◌, nat_le}
use Rattle.figures.specs.declared.ranges.Range.{Range}

abbrev pub numbers : Range
numbers = record { low = 1; high = 9999 }

-- a number as a supplier keeps it: one out of range becomes 1
abbrev pub named : ℕ → ℕ
named number = cond (nat_le numbers.low number && nat_le number numbers.high) number 1
