use Rattle.std.proofs.Common.{ℕ, zero, suc, ◌+◌, ◌<◌, ◌≤◌, Bool, true, false, List, get_or, MatchBool, ap, add-one, arith, rules}
use Rattle.figures.specs.Days.{horizon, for_days}
use Rattle.stages.specs.StageMaking.{Under}
use Rattle.stages.proofs.stage.bounds.under.Goals as goal

-- no limit is above the one below, place by place
by_place : (bounds : List ℕ) (limit : ℕ → ℕ) (r : Bool) →
    MatchBool r ((i : ℕ) → i < horizon → get_or bounds i 0 ≤ limit (i + 1)) ((i : ℕ) × (i < horizon) × (limit (i + 1) < get_or bounds i 0)) →
    MatchBool r (Under (for_days bounds) limit) (Under (for_days bounds) limit → ⊥)
by_place bounds limit true h = at
  where
    at : Under (for_days bounds) limit
    at zero a b = absurd (omega arith)
    at (suc i) a b = let x = h i (omega arith) in omega (arith, ap limit (add-one i))
by_place bounds limit false h =
    λ under. let x = under (h.0 + 1) (omega arith) (let n = h.1 in omega arith) in let o = h.2 in omega (arith, ap (for_days bounds) (add-one h.0))

pub returns : goal.returns
returns g c v =
    let b = c.args.limits.now.bounds in
    let limit = (g.S.Supplier.meaning c.args.below.now).service.limit in
    let h : MatchBool c.all.result ((i : ℕ) → i < horizon → get_or b i 0 ≤ limit (i + 1)) ((i : ℕ) × (i < horizon) × (limit (i + 1) < get_or b i 0)) = search rules in
    by_place b limit c.all.result h
