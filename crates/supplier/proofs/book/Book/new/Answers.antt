use Rattle.std.proofs.Common.{refl, arith, rules}
use Rattle.figures.proofs.Totals.{zeros_get}
use Rattle.figures.specs.Days.{horizon}
use Rattle.supplier.specs.Books.{unrolled}
use Rattle.supplier.proofs.book.Book.new.Goals as goal

pub invariant_of-result : goal.invariant_of-result
invariant_of-result c = record { long = refl; inside = search rules; small = λ i. omega (arith, zeros_get horizon i) }

pub returns : goal.returns
unfolding unrolled
returns c = refl
