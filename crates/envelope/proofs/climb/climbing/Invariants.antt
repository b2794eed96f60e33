-- What the orders placed so far have reached.
use Rattle.std.proofs.Common.{◌≡◌, ℕ, ◌+◌, ◌-◌, ◌<◌, length, get_or}
use Rattle.figures.specs.Days.{horizon}
use Rattle.envelope.proofs.climb.climbing.Given as goal

-- the steps so far are taken, and the last bound is kept
abbrev pub invariant-loop-k : goal.invariant-loop-k
invariant-loop-k g l =
    let bound = (g.E.Envelope.meaning l.e).bound in
    (length l.orders ≡ horizon) × (l.before ≡ bound l.k)
    × ((j : ℕ) → j < l.k → get_or l.orders j 0 ≡ bound (j + 1) - bound j)
