-- An assembly's refusals keep the supplier's law.
use Rattle.std.specs.Prelude.{◌≡◌, ℕ, ◌+◌, ◌*◌, ◌<◌, ◌≤◌, min, Bool, true, false, cond, List, ◌∷◌, Some, None, Option, ◌==◌, ◌≢◌, nat_lt, refl}
use Rattle.std.proofs.Common.{sym, ap, ◌∙◌, ⊎_elim, mul-one, mul_comm, mul-le-mul_left, arith}
use Rattle.std.proofs.lemmas.Bool.{cases_lt, eqb-true, eqb-false, ne_eqb, ltb-true, ltb-false, le-ltb, cond-false}
use Rattle.figures.specs.Days.{window}
use Rattle.supplier.specs.declared.fault.Cause.{Cause}
use Rattle.supplier.specs.declared.fault.Cause.TheVariants.{TermSpent, OverDay, OverWindow}
use Rattle.supplier.specs.declared.fault.Fault.{Fault}
use Rattle.supplier.specs.Orders.{term}
use Rattle.supplier.specs.Books.{orders_of}
use Rattle.supplier.specs.Finders.{fault}
use Rattle.supplier.specs.Meaning.{most_layers, Service, Meaning, Refused, Caused}
use Rattle.layers.specs.Carrying.{carried, carries}
use Rattle.assemblies.specs.declared.kits.Kits.{Kits}
use Rattle.assemblies.specs.Assemblies.{times, shared, either, kits_refusal, assembled_service, Joined}
use Rattle.assemblies.specs.Scaling.{window-times, shared-left, shared-right, shared-above}

-- a supplier that feeds one side of an assembly with this limit and these orders
pub record Feeds (c : ℕ) (limit : ℕ → ℕ) (days : ℕ) (orders : List ℕ) (s : Service) : Type 0 where
  pub allows : (k : ℕ) → c * limit k ≤ s.limit k
  pub same : s.book ≡ times c orders
  pub together : s.days ≡ days

-- what ties an assembly to its two sides makes them feed it
pub fed_left : {left right : Meaning} {own : Kits} → Joined left right own →
    Feeds own.left.per_kit (shared left.service.limit right.service.limit own.left.per_kit own.right.per_kit) own.days (orders_of own.orders) left.service
fed_left {left} {right} {own} v = record {
  allows = shared-left left.service.limit right.service.limit own.left.per_kit own.right.per_kit;
  same = v.left_side.same;
  together = v.left_side.together;
}

pub fed_right : {left right : Meaning} {own : Kits} → Joined left right own →
    Feeds own.right.per_kit (shared left.service.limit right.service.limit own.left.per_kit own.right.per_kit) own.days (orders_of own.orders) right.service
fed_right {left} {right} {own} v = record {
  allows = shared-right left.service.limit right.service.limit own.left.per_kit own.right.per_kit;
  same = v.right_side.same;
  together = v.right_side.together;
}

-- the windows of a side
side_window : (c : ℕ) (limit : ℕ → ℕ) (days : ℕ) (orders : List ℕ) (s : Service) → Feeds c limit days orders s → (q k : ℕ) →
    window k (c * q ∷ s.book) ≡ c * window k (q ∷ orders)
side_window c limit days orders s p q k = ap (λ b. window k (c * q ∷ b)) p.same ∙ window-times c k (q ∷ orders)

less : (c x y : ℕ) → c * x < c * y → x < y
less c x y h = ⊎_elim (λ (l : x < y). l) (λ (l : y ≤ x). let m = mul-le-mul_left c l in absurd (omega arith)) (cases_lt x y)

-- a fault of a side, as the assembly carries it
side_caused : (c : ℕ) (t s : Service) (q : ℕ) (f : Fault) (cause : Cause) → Feeds c t.limit t.days t.book s → t.days < term → q ≤ t.limit 1 →
    Caused s (c * q) f cause → Caused t q (carried f) cause
side_caused c t s q f TermSpent p l top (d, w, b, n) = absurd (let e = p.together in omega arith)
side_caused c t s q f OverDay p l top (d, o, w) = absurd (let m = mul-le-mul_left c top in let a = p.allows 1 in omega arith)
side_caused c t s q f OverWindow p l top (d, o, (k, from, near, over), two, w) =
    let e = side_window c t.limit t.days t.book s p q k in
    let a = p.allows k in
    (l, top, (k, from, near, less c (t.limit k) (window k (q ∷ t.book)) (omega arith)), two, w)

side_refused : (c : ℕ) (t s : Service) (q : ℕ) (f : Fault) → Feeds c t.limit t.days t.book s → t.days < term → q ≤ t.limit 1 →
    Refused s (c * q) (Some f) → Refused t q (Some (carried f))
side_refused c t s q f p l top (day, layers, cause) =
    (let e = p.together in day ∙ ap (λ n. n + 1) e, (let m : min (f.layers + 1) most_layers ≤ most_layers = omega arith in m), side_caused c t s q f f.cause p l top cause)

module _ (number a b days : ℕ) (orders : List ℕ) (left right : Service) (some : 1 ≤ a) (more : 1 ≤ b)
    (lp : Feeds a (shared left.limit right.limit a b) days orders left) (rp : Feeds b (shared left.limit right.limit a b) days orders right) where
  both_refused : (q : ℕ) (l r : Option Fault) → days < term → q ≤ shared left.limit right.limit a b 1 → Refused left (a * q) l → Refused right (b * q) r →
      Refused (assembled_service number a b days orders left right) q (either (carries l) (carries r))
  both_refused q (Some f) r d top x y = side_refused a (assembled_service number a b days orders left right) left q f lp d top x
  both_refused q None (Some f) d top x y = side_refused b (assembled_service number a b days orders left right) right q f rp d top y
  both_refused q None None d top x y = (
    d,
    λ k from near.
        let e = side_window a (shared left.limit right.limit a b) days orders left lp q k in
        let f = side_window b (shared left.limit right.limit a b) days orders right rp q k in
        let g = x.1 k from near in
        let h = y.1 k from near in
        shared-above left.limit right.limit a b k (window k (q ∷ orders)) some more (omega arith) (omega arith),
  )

  pub kits_refused : (q : ℕ) → days ≤ term → Refused left (a * q) (left.refusal (a * q)) → Refused right (b * q) (right.refusal (b * q)) →
      Refused (assembled_service number a b days orders left right) q ((assembled_service number a b days orders left right).refusal q)
  kits_refused q until x y = go (days == term) refl (nat_lt (shared left.limit right.limit a b 1) q) refl
    where
      go : (e : Bool) → (days == term) ≡ e → (o : Bool) → nat_lt (shared left.limit right.limit a b 1) q ≡ o →
          Refused (assembled_service number a b days orders left right) q
          (cond e (Some (fault TermSpent number (days + 1) 0 term days))
          (cond o (Some (fault OverDay number (days + 1) 1 (shared left.limit right.limit a b 1) q))
          (either (carries (left.refusal (a * q))) (carries (right.refusal (b * q))))))
      go true p o r = (refl, omega arith, (eqb-true days term p, refl, refl, refl))
      go false p true r = (refl, omega arith, (omega (arith, eqb-false days term p), ltb-true (shared left.limit right.limit a b 1) q r, refl))
      go false p false r =
          both_refused q (left.refusal (a * q)) (right.refusal (b * q)) (omega (arith, eqb-false days term p))
          (ltb-false (shared left.limit right.limit a b 1) q r) x y

  -- an order that an assembly does not refuse, neither side refuses
  pub record Free (q : ℕ) : Type 0 where
    pub early : days < term
    pub top : q ≤ shared left.limit right.limit a b 1
    pub left-free : left.refusal (a * q) ≡ None
    pub right-free : right.refusal (b * q) ≡ None

  pub kits_free : (q : ℕ) → days ≤ term → (assembled_service number a b days orders left right).refusal q ≡ None → Free q
  kits_free q until e = go (days == term) refl (nat_lt (shared left.limit right.limit a b 1) q) refl (left.refusal (a * q)) refl (right.refusal (b * q)) refl e
    where
      never : (f : Fault) → Some f ≢ None
      never f e = let z : ◌≡◌ {A = ℕ} 0 1 = cc in omega arith

      go : (e : Bool) → (days == term) ≡ e → (o : Bool) → nat_lt (shared left.limit right.limit a b 1) q ≡ o →
          (l : Option Fault) → left.refusal (a * q) ≡ l → (r : Option Fault) → right.refusal (b * q) ≡ r →
          cond e (Some (fault TermSpent number (days + 1) 0 term days))
          (cond o (Some (fault OverDay number (days + 1) 1 (shared left.limit right.limit a b 1) q)) (either (carries l) (carries r))) ≡ None → Free q
      go true p o u l x r y e = absurd (never _ e)
      go false p true u l x r y e = absurd (never _ e)
      go false p false u (Some f) x r y e = absurd (never _ e)
      go false p false u None x (Some f) y e = absurd (never _ e)
      go false p false u None x None y e = record {
        early = omega (arith, eqb-false days term p);
        top = ltb-false (shared left.limit right.limit a b 1) q u;
        left-free = x;
        right-free = y;
      }

-- past the first two causes
pub kits_later : (number days top q : ℕ) (l r : Option Fault) → (days ≢ term) → q ≤ top → either (carries l) (carries r) ≡ kits_refusal number days top l r q
kits_later number days top q l r ne h =
    sym (cond-false (days == term) _ (cond (nat_lt top q) (Some (fault OverDay number (days + 1) 1 top q)) (either (carries l) (carries r))) (ne_eqb days term ne)
    ∙ cond-false (nat_lt top q) _ (either (carries l) (carries r)) (le-ltb top q h))

-- a product with a number of 1 and more is 0 only at 0
pub none_of : (c x : ℕ) → 1 ≤ c → c * x ≡ 0 → x ≡ 0
none_of c x h e = let m = mul-le-mul_left x h in let k = mul_comm x c in let o = mul-one x in omega arith
