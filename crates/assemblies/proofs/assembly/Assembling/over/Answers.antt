use Rattle.std.proofs.Common.{◌≡◌, [], ◌∷◌, refl, sym, ◌∙◌, arith}
use Rattle.supplier.proofs.Naming.{named-kept}
use Rattle.layers.proofs.Asking.{never_asked, asked_none, given_resting}
use Rattle.assemblies.specs.AssemblyMaking.{assembly_ranges, Unkitted}
use Rattle.assemblies.proofs.Kitted.{joined_new}
use Rattle.assemblies.proofs.assembly.Assembling.over.Goals as goal

pub returns-then-is_some-clause-made : goal.returns-then-is_some-clause-made
returns-then-is_some-clause-made g c v w =
    let a = c.args in
    let unused = ((g.L.Supplier.meaning a.left).service.days ≡ 0) × ((g.R.Supplier.meaning a.right).service.days ≡ 0) in
    given_resting _ _ _ _ _ _
    (never_asked assembly_ranges (a.number ∷ a.a ∷ a.b ∷ []) unused (Unit {0}) (Unit {0}) (Unit {0}) c.question.result (sym c.if-is_some.ensures) (c.question.ensures.asked v w))
    c.resting.ensures

pub returns-clause-made : goal.returns-clause-made
returns-clause-made g c v w =
    let a = c.args in
    let left = g.L.Supplier.meaning a.left in
    let right = g.R.Supplier.meaning a.right in
    let p = asked_none assembly_ranges (a.number ∷ a.a ∷ a.b ∷ []) ((left.service.days ≡ 0) × (right.service.days ≡ 0)) (Unit {0}) (Unit {0}) (Unit {0}) c.question.result (sym c.if-is_some.ensures) (c.question.ensures.asked v w) in
    let n = c.kept_number.ensures ∙ named-kept a.number (p.0 0 (omega arith) (omega arith)) in
    let made : Unkitted a.number a.a a.b _ =
    record { numbered = n; lefts = refl; rights = refl; none = c.new.ensures; unused = refl; left_waits = refl; right_waits = refl; undelivered = refl } in (
      p,
      record {
        over_left = refl;
        over_right = refl;
        unkitted = made;
        tied = (v, w, joined_new left right a.number a.a a.b _ (g.met.L.Supplier.sound a.left v) (g.met.R.Supplier.sound a.right w) p.1 made);
      },
    )
