use Rattle.std.proofs.Common.{◌≤◌, max, arith}
use Rattle.figures.specs.Days.{horizon}
use Rattle.supplier.specs.Books.{orders_of}
use Rattle.assemblies.proofs.Conserving.{side_conserves}
use Rattle.assemblies.proofs.assembly.Assembling.waiting.Goals as goal

pub returns-clause-conserves : goal.returns-clause-conserves
returns-clause-conserves g c v w tied orders b =
    let s = c.args.self.now in
    let ql = (g.L.Supplier.meaning s.left).service.quote in
    let qr = (g.R.Supplier.meaning s.right).service.quote in
    let x = (g.met.L.Supplier.sound s.left v).service.near in
    let y = (g.met.R.Supplier.sound s.right w).service.near in
    let near : max ql qr ≤ horizon = omega arith in (
      side_conserves s.own.left.per_kit ql (max ql qr) s.own.left.waiting (orders_of s.own.orders) orders b (omega arith) near tied.left_waits,
      side_conserves s.own.right.per_kit qr (max ql qr) s.own.right.waiting (orders_of s.own.orders) orders b (omega arith) near tied.right_waits,
    )
