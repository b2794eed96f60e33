-- Each order takes a step of the curve.
use Rattle.std.proofs.Common.{◌≡◌, ◌+◌, ◌-◌, ◌<◌, ◌≢◌, length, arith, length-set, get_or-set_other, get_or-set_same, below_more}
use Rattle.envelope.proofs.Climbs.{climbs}
use Rattle.envelope.proofs.climb.climbing.Goals as goal

-- the bound never falls
pub overflow_sub-orders : goal.overflow_sub-orders
overflow_sub-orders g c = omega (arith, (g.met.E.Envelope.lawful c.args.e.now).grows c.loop-k.k (omega arith))

pub loop-k-preserved : goal.loop-k-preserved
loop-k-preserved g c =
    let bound = (g.E.Envelope.meaning c.args.e.now).bound in
    let k = c.loop-k.k in
    let step : c.near-reached.result - c.loop-k.before ≡ bound (k + 1) - bound k = omega arith in (
      simp length-set (omega arith),
      c.near-reached.ensures,
      below_more _ _
          (λ j h. let ne : j ≢ k = omega arith in rw get_or-set_other (c.loop-k.invariant.2 j h))
          (let lt : k < length c.loop-k.orders = omega arith in rw get_or-set_same step),
    )

pub returns : goal.returns
returns g c =
    let e = c.args.e.now in
    climbs (g.E.Envelope.meaning e) c.loop-k.orders (g.met.E.Envelope.lawful e) c.loop-k.invariant.0 (λ k h. c.loop-k.invariant.2 k (omega arith))
