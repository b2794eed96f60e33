-- The days are tried from 1 up.
use Rattle.std.proofs.Common.{rules, ℕ, ◌+◌, ◌<◌, ◌≤◌, List, Some, None, Option, MatchOption, arith}
use Rattle.figures.specs.Days.{horizon}
use Rattle.envelope.specs.Tables.{Breaks, Unbroken, FirstBroken}
use Rattle.envelope.proofs.Searches.{find_through_range}
use Rattle.envelope.proofs.rows.Rows.first_broken.Goals as goal

first_tried : (mean : ℕ) (bounds : List ℕ) (r : Option ℕ) →
    MatchOption r ((i : ℕ) → 1 ≤ i → i < horizon + 1 → Breaks mean bounds i → ⊥)
    (λ k. (1 ≤ k) × (k < horizon + 1) × Breaks mean bounds k × ((i : ℕ) → 1 ≤ i → i < k → Breaks mean bounds i → ⊥)) →
    MatchOption r (Unbroken mean bounds horizon) (λ k. FirstBroken mean bounds k)
first_tried mean bounds None t = λ j from near. t j from (omega arith)
first_tried mean bounds (Some k) t = record { from_one = t.0; near = omega arith; breaks = t.2; first = λ j from upto. t.3 j from (omega arith) }

pub returns : goal.returns
returns c =
    let rows = c.args.self.now in
    let Broken = Breaks rows.mean rows.bounds.now in
    let made = c.new.ensures in
    first_tried rows.mean rows.bounds.now c.find.result
    (find_through_range 1 horizon c.new.result made.start made.end made.exhausted c.find.result c.find.ensures.runs Broken (λ k. Broken k → ⊥) (search rules) (search rules) (search rules))
