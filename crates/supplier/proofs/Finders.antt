-- What a finder answers, in plain words and by its parts.
use Rattle.std.proofs.Common.{◌≡◌, ℕ, zero, suc, ◌+◌, ◌<◌, ◌≤◌, false, cond, eqb, List, ◌∷◌, Some, None, Option, sym, refl, ap, ◌∙◌, subst, ⊎_elim, arith}
use Rattle.std.specs.Option.{option_map}
use Rattle.std.proofs.lemmas.Bool.{cases_eq, eq-eqb, ne_eqb, cond-true, cond-false}
use Rattle.figures.specs.Days.{horizon, window}
use Rattle.supplier.specs.declared.book.broken.Broken.{Broken}
use Rattle.supplier.specs.declared.fault.Cause.TheVariants.{TermSpent, OverDay, OverWindow}
use Rattle.supplier.specs.Orders.{term}
use Rattle.supplier.specs.Windows.{least_broken, broken_at, first_broken}
use Rattle.supplier.specs.Finders.{fault, over, finds, Plain}
use Rattle.supplier.proofs.Windows.{BreaksFirst, broken_shows, unbroken_shows, first_agree}

module _ (number : ℕ) (limit : ℕ → ℕ) (days : ℕ) (book : List ℕ) (q : ℕ) where
  pub finds_spent : days ≡ term → finds number limit days book q ≡ Some (fault TermSpent number (days + 1) 0 term days)
  finds_spent e = cond-true _ _ _ (eq-eqb days term e)

  pub finds-later : (days ≡ term → ⊥) → finds number limit days book q ≡ option_map (over number days) (first_broken limit book q)
  finds-later ne = cond-false _ _ _ (ne_eqb days term ne)

  -- what a finder makes of the first window broken
  pub finds_by : (o : Option Broken) → o ≡ first_broken limit book q → (days ≡ term → ⊥) → option_map (over number days) o ≡ finds number limit days book q
  finds_by o e ne = ap (option_map (over number days)) e ∙ sym (finds-later ne)

  -- a window that is broken first is told in plain words
  over_plain : (k : ℕ) → days < term → BreaksFirst horizon limit book q k → Plain number limit days book q (Some (over number days (broken_at limit book q k)))
  over_plain zero d b = absurd (let s = b.some in omega arith)
  over_plain (suc zero) d b =
      let e : q + 0 ≡ q = omega arith in
      let o = b.over in
      (d, omega arith, ap (fault OverDay number (days + 1) 1 (limit 1)) e)
  over_plain (suc (suc k)) d b =
      let n = suc (suc k) in
      let ne : eqb (suc (suc k)) 1 ≡ false = ne_eqb (suc (suc k)) 1 (λ e. omega arith) in
      let e : over number days (broken_at limit book q n) ≡ fault OverWindow number (days + 1) n (limit n) (window n (q ∷ book)) =
      ap (λ c. fault (cond c OverDay OverWindow) number (days + 1) n (limit n) (window n (q ∷ book))) ne in
      subst (λ f. Plain number limit days book q (Some f)) (sym e) (n, d, omega arith, b.near, b.over, b.clear, refl)

  by_window : (o : Option ℕ) → least_broken horizon limit book q ≡ o → days < term →
      Plain number limit days book q (option_map (over number days) (option_map (broken_at limit book q) o))
  by_window None e d = (d, unbroken_shows horizon limit book q e)
  by_window (Some k) e d = over_plain k d (broken_shows horizon limit book q k e)

  pub finds_plain : days ≤ term → Plain number limit days book q (finds number limit days book q)
  finds_plain until = ⊎_elim
      (λ (e : days ≡ term). subst (Plain number limit days book q) (sym (finds_spent e)) (e, refl))
      (λ (ne : days ≡ term → ⊥).
      let d : days < term = omega (arith, ne) in
      subst (Plain number limit days book q) (sym (finds-later ne)) (by_window (least_broken horizon limit book q) refl d))
      (cases_eq days term)

-- limits that agree up to the horizon find the same
pub finds_agree : (number : ℕ) (f g : ℕ → ℕ) (days : ℕ) (book : List ℕ) (q : ℕ) → ((k : ℕ) → 1 ≤ k → k ≤ horizon → f k ≡ g k) →
    finds number f days book q ≡ finds number g days book q
finds_agree number f g days book q h =
    ap (λ o. cond (eqb days term) (Some (fault TermSpent number (days + 1) 0 term days)) (option_map (over number days) o)) (first_agree f g book q h)
