-- The parts of a bucket's bound fit.
use Rattle.std.proofs.Common.{rules, ◌+◌, ◌*◌, ◌≤◌, mul-le-mul_left, arith}
use Rattle.figures.specs.Days.{horizon}
use Rattle.envelope.specs.Buckets.{bursts}
use Rattle.envelope.specs.Curves.{daily}
use Rattle.envelope.specs.BucketsLemmas.{fine, peak_high}
use Rattle.envelope.proofs.bucket.BucketEnvelope.bound.Goals as goal
use Rattle.envelope.proofs.bucket.BucketEnvelope.bound.Goals.{In_ok-days}

-- the two products, and the burst, are small
small : (c : In_ok-days) → (c.in_ok-days.days * c.args.self.now.peak ≤ horizon * daily.high)
    × (c.args.self.now.burst + c.in_ok-days.days * c.args.self.now.mean ≤ bursts.high + horizon * daily.high)
small c =
    let b = c.args.self.now in
    let k = c.in_ok-days.days in
    let near : k ≤ horizon = search rules in
    let f = fine b.peak b.burst b.mean b.within b.unbroken in
    let p = peak_high b.peak k f.small near in
    let m : k * b.mean ≤ k * b.peak = mul-le-mul_left k f.above in
    (p, omega arith)

pub overflow_mul-days : goal.overflow_mul-days
overflow_mul-days c = omega (arith, small c)

pub overflow_mul-days-2 : goal.overflow_mul-days-2
overflow_mul-days-2 c = omega (arith, small c)

pub overflow_add-self : goal.overflow_add-self
overflow_add-self c = omega (arith, small c)
