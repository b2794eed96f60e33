-- A number in range is kept.
use Rattle.std.proofs.Common.{◌≡◌, ℕ, ◌&&◌, leb}
use Rattle.std.proofs.lemmas.Bool.{le-leb, and_from, cond-true}
use Rattle.figures.specs.Ranges.{Within}
use Rattle.supplier.specs.Numbers.{numbers, named}

pub named-kept : (n : ℕ) → Within numbers n → named n ≡ n
named-kept n (a, b) = cond-true (leb 1 n && leb n 9999) n 1 (and_from (leb 1 n) (leb n 9999) (le-leb 1 n a) (le-leb n 9999 b))
