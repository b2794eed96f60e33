-- What is between two deliveries, as far as a book tells.
use Rattle.std.proofs.Common.{◌≡◌, ℕ, ◌+◌, ◌≤◌, List, sym, ap, ◌∙◌}
use Rattle.figures.specs.Days.{horizon, span}
use Rattle.supplier.specs.Orders.{recent, delivered}
use Rattle.supplier.proofs.Recents.{span-recent}
use Rattle.supplier.proofs.Deliveries.{conserved}

pub between : (early late : ℕ) (book orders : List ℕ) → book ≡ recent horizon orders → early ≤ late → late ≤ horizon →
    delivered early orders ≡ delivered late orders + span early late book
between early late book orders e h near =
    conserved early late orders h ∙ ap (λ n. delivered late orders + n) (sym (ap (span early late) e ∙ span-recent horizon orders early late h near))
