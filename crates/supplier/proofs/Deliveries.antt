-- What an earlier delivery has brought and a later one has not: the orders between.
use Rattle.std.proofs.Common.{◌≡◌, ℕ, ◌+◌, ◌-◌, ◌≤◌, List, [], ◌∷◌, get_or, ap, arith}
use Rattle.figures.specs.Days.{span}
use Rattle.figures.proofs.Totals.{slides, zeros_total}
use Rattle.supplier.specs.Orders.{delivered}

pub conserved : (early late : ℕ) (orders : List ℕ) → early ≤ late → delivered early orders ≡ delivered late orders + span early late orders
conserved early late [] h = let z = zeros_total 0 early (late - early) in omega arith
conserved early late (q ∷ orders) h =
    let before = conserved early late orders h in
    let slide = slides (late - early) early (q ∷ orders) in
    let e : early + (late - early) ≡ late = omega arith in
    let last = ap (λ n. get_or (q ∷ orders) n 0) e in
    omega arith
