use Rattle.std.proofs.Common.{◌≡◌, ℕ, ◌-◌, ◌*◌, ◌^◌, ◌≤◌, min, Some, None, Option, unwrap_or, refl, ap, ◌∙◌, arith, rules}
use Rattle.std.specs.Option.{MatchOption}
use Rattle.figures.specs.Days.{most}
use Rattle.supplier.specs.declared.fault.Fault.{Fault}
use Rattle.supplier.specs.Limits.{told_limit}
use Rattle.supplier.specs.Orders.{term}
use Rattle.supplier.specs.Meaning.{Service, Steady}
use Rattle.layers.specs.Carrying.{carries}
use Rattle.assemblies.specs.declared.kits.Kits.{Kits}
use Rattle.assemblies.specs.Assemblies.{shared, either, kits_refusal}
use Rattle.assemblies.specs.Joining.{kits_later}
use Rattle.assemblies.proofs.Kitted.{top_value, top_small, whole}
use Rattle.assemblies.proofs.assembly.supplying.AssemblingSupplier.trial.Goals as goal

-- a product that the code may cut
abbrev cut : ℕ → ℕ → ℕ
cut c q = min (c * q) (2 ^ 64 - 1)

-- the right is asked only where the left does not refuse
or_either : (l r other : Option Fault) (P : Type 0) → (P → r ≡ other) → MatchOption l P (λ x. r ≡ Some x) → r ≡ either l other
or_either (Some f) r other P h m = m
or_either None r other P h m = h m

carried_either : (l r : Option Fault) → carries (either l r) ≡ either (carries l) (carries r)
carried_either (Some f) r = refl
carried_either None r = refl

-- What both sides answer, once the first two causes are ruled out: `top` is the limit of a day as the code read it.
tried : (own : Kits) (L R : Service) (q top : ℕ) (read : Option ℕ) → Steady L → (own.days ≡ term → ⊥) →
    top ≡ unwrap_or read 0 → read ≡ told_limit (shared L.limit R.limit own.left.per_kit own.right.per_kit) 1 → q ≤ top →
    carries (either (L.refusal (cut own.left.per_kit q)) (R.refusal (cut own.right.per_kit q)))
    ≡ kits_refusal own.number own.days (shared L.limit R.limit own.left.per_kit own.right.per_kit 1) (L.refusal (own.left.per_kit * q)) (R.refusal (own.right.per_kit * q)) q
tried own L R q top read steady ne t o h =
    let limit = shared L.limit R.limit own.left.per_kit own.right.per_kit 1 in
    let e = top_value own L R top read t o in
    let high = top_small own L R steady in
    let few : q ≤ most = omega arith in
    let a = whole own.left.per_kit q (cut own.left.per_kit q) own.left.few few refl in
    let b = whole own.right.per_kit q (cut own.right.per_kit q) own.right.few few refl in
    carried_either (L.refusal (cut own.left.per_kit q)) (R.refusal (cut own.right.per_kit q))
    ∙ (λ i. either (carries (L.refusal (a i))) (carries (R.refusal (b i))))
    ∙ kits_later own.number own.days limit q (L.refusal (own.left.per_kit * q)) (R.refusal (own.right.per_kit * q)) ne (omega arith)

pub returns : goal.returns
returns g c v =
    let s = c.args.self.now in
    let L = (g.L.Supplier.meaning s.left).service in
    let R = (g.R.Supplier.meaning s.right).service in
    let first = or_either c.trial.result c.or_else.result (R.refusal (cut s.own.right.per_kit c.args.q)) _ (λ p. search rules) c.or_else.ensures in
    let carried : c.map.result ≡ carries c.or_else.result = search rules in
    let left = c.trial.ensures v.0 ∙ ap L.refusal c.wanted.ensures in
    carried ∙ ap carries first ∙ ap (λ l. carries (either l (R.refusal (cut s.own.right.per_kit c.args.q)))) left
    ∙ tried s.own L R c.args.q c.unwrap_or-top.result c.limit.result (g.met.L.Supplier.sound s.left v.0).service c.if-self-eq-TERM.false c.unwrap_or-top.ensures (c.limit.ensures v) c.if-q-top.false
