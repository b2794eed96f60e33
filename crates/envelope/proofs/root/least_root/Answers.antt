-- What is found is the least root.
use Rattle.std.proofs.Common.{◌+◌, arith}
use Rattle.envelope.specs.LeastRoots.{above-short, is_root_up}
use Rattle.envelope.proofs.root.least_root.Goals as goal

pub returns-then-n-eq0-clause-value : goal.returns-then-n-eq0-clause-value
returns-then-n-eq0-clause-value c = is_root_up c.args.n 0 (omega arith, λ s h. omega arith)

pub returns-else-n-eq0-clause-value : goal.returns-else-n-eq0-clause-value
returns-else-n-eq0-clause-value c =
    let n = c.args.n in
    let r = c.isqrt.result in
    is_root_up n (r + 1) (omega (arith, c.isqrt.ensures.next_square_gt), λ s h. omega (arith, above-short n r s (omega arith) h))
