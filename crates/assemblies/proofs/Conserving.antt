-- What an assembly has received is what is in the kits that it has handed on and what waits.
use Rattle.std.proofs.Common.{◌≡◌, ℕ, ◌*◌, ◌≤◌, List, [], ◌∷◌, get_or, sym, ap, mul-zero, mul-add, arith}
use Rattle.figures.specs.Days.{horizon, span}
use Rattle.supplier.specs.Orders.{recent, delivered}
use Rattle.layers.proofs.Conserving.{between}
use Rattle.assemblies.specs.Assemblies.{times}
use Rattle.assemblies.specs.Conservation.{SideConserves}
use Rattle.assemblies.specs.Scaling.{get-times}

delivered-times : (c quote : ℕ) (orders : List ℕ) → delivered quote (times c orders) ≡ c * delivered quote orders
delivered-times c quote [] = sym (mul-zero c)
delivered-times c quote (q ∷ orders) =
    let h = delivered-times c quote orders in
    let e = get-times c (q ∷ orders) quote in
    let m = mul-add c (get_or (q ∷ orders) quote 0) (delivered quote orders) in
    omega arith

pub side_conserves : (c early late wait : ℕ) (book orders : List ℕ) → book ≡ recent horizon orders → early ≤ late → late ≤ horizon →
    wait ≡ c * span early late book → SideConserves c early late orders wait
side_conserves c early late wait book orders e h near w =
    let a = delivered-times c early orders in
    let b = ap (λ n. c * n) (between early late book orders e h near) in
    let d = mul-add c (delivered late orders) (span early late book) in
    omega arith
