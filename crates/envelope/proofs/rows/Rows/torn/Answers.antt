-- The days that are tried are all first parts.
use Rattle.std.proofs.Common.{rules, ◌≡◌, ℕ, ◌+◌, ◌-◌, ◌<◌, ◌≤◌, Bool, true, false, List, MatchBool, subst, arith}
use Rattle.figures.specs.Days.{for_days}
use Rattle.envelope.specs.Tables.{Torn}
use Rattle.envelope.proofs.Searches.{any_in_range}
use Rattle.envelope.proofs.rows.Rows.torn.Goals as goal

-- the second part is what the first leaves
torn_tried : (bounds : List ℕ) (k : ℕ) (r : Bool) →
    MatchBool r ((i : ℕ) × (1 ≤ i) × (i < k) × (for_days bounds i + for_days bounds (k - i) < for_days bounds k))
    ((i : ℕ) → 1 ≤ i → i < k → for_days bounds k ≤ for_days bounds i + for_days bounds (k - i)) →
    MatchBool r (Torn bounds k) (Torn bounds k → ⊥)
torn_tried bounds k true t = (t.0, k - t.0, t.1, omega arith, omega arith, t.3)
torn_tried bounds k false t =
    λ torn.
    let e : torn.1 ≡ k - torn.0 = omega arith in
    omega (arith, subst (λ j. for_days bounds torn.0 + for_days bounds j < for_days bounds k) e torn.5, t torn.0 torn.2 (omega arith))

pub returns : goal.returns
returns c =
    let at = for_days c.args.self.now.bounds.now in
    let k = c.args.k in
    let Hit = λ (i : ℕ). at i + at (k - i) < at k in
    let Miss = λ (i : ℕ). at k ≤ at i + at (k - i) in
    torn_tried c.args.self.now.bounds.now k c.any.result
    (any_in_range 1 k c.any.result c.any.ensures.runs Hit Miss (search rules) (search rules) (search rules))
