use Rattle.std.proofs.Common.{◌≡◌, ◌+◌, ◌-◌, ◌*◌, max, ◌++◌, Some, sym, ap, ◌∙◌, arith}
use Rattle.std.specs.List.{slice_get}
use Rattle.figures.specs.Days.{span}
use Rattle.supplier.specs.declared.line.Kind.TheVariants as kind
use Rattle.supplier.specs.Books.{orders_of}
use Rattle.layers.proofs.Topped.{topped-cut, topped_below, topped-first}
use Rattle.assemblies.specs.Assemblies.{assembly_line}
use Rattle.assemblies.specs.Scaled.{nth_left, nth_right}
use Rattle.assemblies.proofs.Kitted.{waits_small}
use Rattle.assemblies.proofs.assembly.supplying.AssemblingSupplier.line.Goals as goal

pub returns-then-i-ge-MOST_LINES : goal.returns-then-i-ge-MOST_LINES
returns-then-i-ge-MOST_LINES g c v = sym (topped-cut _ _ c.args.i (omega arith))

pub returns-then-i-left : goal.returns-then-i-left
returns-then-i-left g c v =
    let s = c.args.self.now in
    let left = (g.L.Supplier.meaning s.left).sheet in
    let right = (g.R.Supplier.meaning s.right).sheet in
    let n = c.lines-left.ensures v.0 in
    c.line.ensures v.0
    ∙ sym (topped_below _ (left ++ right) c.args.i (omega arith) (omega arith) ∙ nth_left left right (c.args.i - 1) (omega arith))

pub returns-then-i-gt0 : goal.returns-then-i-gt0
returns-then-i-gt0 g c v =
    let s = c.args.self.now in
    let left = (g.L.Supplier.meaning s.left).sheet in
    let right = (g.R.Supplier.meaning s.right).sheet in
    let n = c.lines-left.ensures v.0 in
    c.line-then-i-gt0.ensures v.1 ∙ ap (λ x. slice_get right ((c.args.i - 1) - x)) n
    ∙ sym (topped_below _ (left ++ right) c.args.i (omega arith) (omega arith) ∙ nth_right left right (c.args.i - 1) (omega arith))

pub returns : goal.returns
returns g c v =
    let s = c.args.self.now in
    let own = s.own in
    let left = g.L.Supplier.meaning s.left in
    let right = g.R.Supplier.meaning s.right in
    let orders = orders_of own.orders in
    let early = left.service.quote in
    let late = right.service.quote in
    let ls = (g.met.L.Supplier.sound s.left v.0).service in
    let rs = (g.met.R.Supplier.sound s.right v.1).service in
    let a = waits_small own.left.per_kit early (max early late) own.orders own.left.few (let x = ls.near in let y = rs.near in omega arith) in
    let b = waits_small own.right.per_kit late (max early late) own.orders own.right.few (let x = ls.near in let y = rs.near in omega arith) in
    let l = v.2.left_waits in
    let r = v.2.right_waits in
    let h : c.saturating_add-held.result ≡ own.left.per_kit * span early (max early late) orders + own.right.per_kit * span late (max early late) orders =
    let e = c.saturating_add-held.ensures in let x = c.waiting-waiting.ensures.left in let y = c.waiting-waiting.ensures.right in omega arith in
    let o = c.last.ensures in
    (λ i. Some (record { number = own.number; kind = kind.Assembly; order = o i; delivery = own.delivered; held = h i }))
    ∙ topped-first (assembly_line own.number own.left.per_kit own.right.per_kit early late orders own.delivered) (left.sheet ++ right.sheet) c.args.i (omega arith)
