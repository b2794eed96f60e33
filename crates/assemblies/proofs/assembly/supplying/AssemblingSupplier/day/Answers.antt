use Rattle.std.proofs.Common.{◌+◌, ◌++◌, map, length, sym, ◌∙◌, rules}
use Rattle.assemblies.specs.Scaled.{scale, figures_both}
use Rattle.assemblies.proofs.Served.{served, joined_step, day_answers}
use Rattle.assemblies.proofs.assembly.supplying.AssemblingSupplier.day.Goals as goal

pub returns-clause-stays : goal.returns-clause-stays
returns-clause-stays g c v =
    let s = c.args.self.now in (
      c.send-from_left.ensures.stays v.0,
      c.send-from_right.ensures.stays v.1,
      joined_step v.2
          (served (g.L.Supplier.layout s.left) (g.R.Supplier.layout s.right) v.2 (g.met.L.Supplier.sound s.left v.0) (g.met.R.Supplier.sound s.right v.1)
          (c.in_default.ensures v) c.wanted-left.ensures (c.send-from_left.ensures.taken v.0) c.wanted-right.ensures (c.send-from_right.ensures.taken v.1)
          (search rules) c.due.ensures c.unwrap_or-due.ensures)
          c.assemble.ensures,
    )

pub returns-clause-answers : goal.returns-clause-answers
returns-clause-answers g c v =
    let s = c.args.self.now in
    day_answers v.2
    (served (g.L.Supplier.layout s.left) (g.R.Supplier.layout s.right) v.2 (g.met.L.Supplier.sound s.left v.0) (g.met.R.Supplier.sound s.right v.1)
    (c.in_default.ensures v) c.wanted-left.ensures (c.send-from_left.ensures.taken v.0) c.wanted-right.ensures (c.send-from_right.ensures.taken v.1)
    (search rules) c.due.ensures c.unwrap_or-due.ensures)
    c.assemble.ensures (c.in_default.ensures v)

pub returns-clause-stocks : goal.returns-clause-stocks
returns-clause-stocks g c v =
    let s = c.args.self.now in
    let kit = c.assemble.ensures in
    let shelves = g.L.Supplier.shelves c.send-from_left.new.below in
    let others = g.R.Supplier.shelves c.send-from_right.new.below in
    figures_both c.assemble.new.self.left.per_kit 1 shelves c.assemble.new.self.right.per_kit (1 + length (g.L.Supplier.meaning c.send-from_left.new.below).sheet) others
    ∙ (λ i. map (scale (kit.left.per_kit i)) (c.send-from_left.ensures.stocks v.0 i) ++ map (scale (kit.right.per_kit i)) (c.send-from_right.ensures.stocks v.1 i))
    ∙ sym (figures_both s.own.left.per_kit 1 (g.L.Supplier.shelves s.left) s.own.right.per_kit (1 + length (g.L.Supplier.meaning s.left).sheet) (g.R.Supplier.shelves s.right))
