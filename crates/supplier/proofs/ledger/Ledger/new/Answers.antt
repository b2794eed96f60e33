use Rattle.std.proofs.Common.{get_or, ap, ◌∙◌, rules}
use Rattle.figures.specs.Days.{horizon}
use Rattle.figures.proofs.Totals.{zeros_get}
use Rattle.supplier.proofs.ledger.Ledger.new.Goals as goal

pub invariant_of-result : goal.invariant_of-result
invariant_of-result c = record { until = search rules; before = λ j h. ap (λ xs. get_or xs j 0) c.new.ensures ∙ zeros_get horizon j }
