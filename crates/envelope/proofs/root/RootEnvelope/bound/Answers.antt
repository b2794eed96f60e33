-- The parts of a root envelope's bound fit, and the root found is the one that is meant.
use Rattle.std.proofs.Common.{rules, ◌≡◌, ℕ, ◌*◌, ◌≤◌, [], ◌∷◌, Some, arith}
use Rattle.figures.specs.Days.{horizon, near}
use Rattle.figures.specs.Ranges.{AllIn}
use Rattle.envelope.specs.Curves.{daily}
use Rattle.envelope.specs.Roots.{spread, root_ranges}
use Rattle.envelope.specs.RootsLemmas.{small-parts, small_root}
use Rattle.envelope.proofs.root.RootEnvelope.bound.Goals as goal

-- the days that the horizon reaches have small parts
parts : (mean w k days : ℕ) → AllIn root_ranges (mean ∷ w ∷ []) → near k k ≡ Some days →
    (days * mean ≤ horizon * daily.high) × (days * w ≤ horizon * spread.high)
parts mean w k days within reached = small-parts mean w days within (search rules)

pub overflow_mul-result : goal.overflow_mul-result
overflow_mul-result c = let e = c.args.self.now in omega (arith, parts e.mean e.w c.args.k c.in_ok-days.days e.within (search rules))

pub overflow_mul-days : goal.overflow_mul-days
overflow_mul-days c = let e = c.args.self.now in omega (arith, parts e.mean e.w c.args.k c.in_ok-days.days e.within (search rules))

pub overflow_add-result : goal.overflow_add-result
overflow_add-result c =
    let e = c.args.self.now in
    let p = parts e.mean e.w c.args.k c.in_ok-days.days e.within (search rules) in
    let r = c.least_root.ensures.value in
    omega (arith, small_root (c.in_ok-days.days * e.w) p.1)
