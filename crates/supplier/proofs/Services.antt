-- A supplier that finds its refusals itself keeps the supplier's law.
use Rattle.std.proofs.Common.{◌≡◌, ℕ, ◌+◌, ◌<◌, ◌≤◌, Bool, true, false, cond, ltb, List, length, Some, None, Option, unwrap_or, refl, ap, ◌∙◌, arith}
use Rattle.std.proofs.lemmas.Bool.{ltb-true, ltb-false, lt-ltb, cond-true}
use Rattle.figures.specs.Days.{horizon, most, near}
use Rattle.figures.proofs.Totals.{near_value}
use Rattle.supplier.specs.declared.fault.Cause.{Cause}
use Rattle.supplier.specs.declared.fault.Cause.TheVariants.{TermSpent, OverDay, OverWindow}
use Rattle.supplier.specs.declared.fault.Fault.{Fault}
use Rattle.supplier.specs.Orders.{term, Before, Fits}
use Rattle.supplier.specs.Limits.{told_limit}
use Rattle.supplier.specs.Finders.{finds, finder, Plain, Found}
use Rattle.supplier.specs.Meaning.{most_layers, Steady, Refused, Caused, RefusedBy, CausedBy}
use Rattle.supplier.proofs.Finders.{finds_plain}

module _ (number quote : ℕ) (limit : ℕ → ℕ) (days : ℕ) (book : List ℕ) where
  found_refused : (q : ℕ) (f : Fault) (cause : Cause) → Found number limit days book q f cause →
      (f.day ≡ days + 1) × (f.layers ≤ most_layers) × Caused (finder number quote limit days book) q f cause
  found_refused q f TermSpent (e, g) = (
    ap (λ x. x.day) g,
    let l : f.layers ≡ 0 = ap (λ x. x.layers) g in omega arith,
    (e, ap (λ x. x.window) g, ap (λ x. x.bound) g, ap (λ x. x.sum) g),
  )
  found_refused q f OverDay (d, o, g) =
      (ap (λ x. x.day) g, let l : f.layers ≡ 0 = ap (λ x. x.layers) g in omega arith, (d, o, ap (λ x. x.window) g))
  found_refused q f OverWindow (k, d, two, near, o, clear, g) =
      let w : f.window ≡ k = ap (λ x. x.window) g in (
        ap (λ x. x.day) g,
        let l : f.layers ≡ 0 = ap (λ x. x.layers) g in omega arith,
        (d, (let c = clear 1 (omega arith) (omega arith) in omega arith), (k, omega arith, near, o), omega arith, omega arith),
      )

  plain_refused : (q : ℕ) (r : Option Fault) → Plain number limit days book q r → Refused (finder number quote limit days book) q r
  plain_refused q None p = p
  plain_refused q (Some f) p = found_refused q f f.cause p

  pub finder_steady : quote ≤ horizon → ((k : ℕ) → 1 ≤ k → k ≤ horizon → limit k ≤ most) →
      ((k : ℕ) → 1 ≤ k → k < horizon → limit k ≤ limit (k + 1)) → days ≤ term → length book ≡ horizon → Before days book →
      Steady (finder number quote limit days book)
  finder_steady near high grows until long before = record {
    near = near;
    high = high;
    grows = grows;
    until = until;
    long = long;
    before = before;
    refusals = λ q. plain_refused q (finds number limit days book q) (finds_plain number limit days book q until);
  }

-- limits that agree up to the horizon are told alike
pub told_agree : (f g : ℕ → ℕ) (k : ℕ) → ((k : ℕ) → 1 ≤ k → k ≤ horizon → f k ≡ g k) → told_limit f k ≡ told_limit g k
told_agree f g k h = go (ltb 0 k) refl (ltb horizon k) refl
  where
    go : (a : Bool) → ltb 0 k ≡ a → (b : Bool) → ltb horizon k ≡ b → cond a (cond b None (Some (f k))) None ≡ cond a (cond b None (Some (g k))) None
    go false p b q = refl
    go true p true q = refl
    go true p false q = ap Some (h k (ltb-true 0 k p) (ltb-false horizon k q))

-- a limit of 1 day to the horizon is told
pub told_value : (limit : ℕ → ℕ) (k : ℕ) → 1 ≤ k → k ≤ horizon → unwrap_or (told_limit limit k) 0 ≡ limit k
told_value limit k a b =
    ap (λ o. unwrap_or o 0) (cond-true (ltb 0 k) (near k (limit k)) None (lt-ltb 0 k a)) ∙ near_value k (limit k) b

-- a fault for which there is no cause
no_cause : (limit : ℕ → ℕ) (days : ℕ) (orders : List ℕ) (q : ℕ) (f : Fault) (cause : Cause) → days < term → Fits limit orders q → CausedBy limit days orders q f cause → ⊥
no_cause limit days orders q f TermSpent l fits (d, w, b, n) = omega arith
no_cause limit days orders q f OverDay l fits (d, o, w) = let a : q + 0 ≤ limit 1 = fits 1 (omega arith) (omega arith) in omega arith
no_cause limit days orders q f OverWindow l fits (d, o, (k, from, near, over), two, w) = let a = fits k from near in omega arith

-- an order within the term that breaks no window is not refused
pub free-taken : (limit : ℕ → ℕ) (days : ℕ) (orders : List ℕ) (q : ℕ) (r : Option Fault) → days < term → Fits limit orders q → RefusedBy limit days orders q r → r ≡ None
free-taken limit days orders q None l fits p = refl
free-taken limit days orders q (Some f) l fits p = absurd (no_cause limit days orders q f f.cause l fits p.2)
