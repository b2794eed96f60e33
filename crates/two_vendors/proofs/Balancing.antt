-- An account of a new supplier balances, and each day keeps it so.
use Rattle.std.proofs.Common.{◌≡◌, ℕ, ◌+◌, ◌-◌, ◌*◌, ◌^◌, ◌<◌, ◌≤◌, List, None, ap, ◌∙◌, subst, zero-le, mul-le-mul_left, mul-add, arith}
use native.Mathlib.Nat.{sub-zero}
use Rattle.figures.specs.Days.{horizon, most, window}
use Rattle.figures.proofs.Totals.{zeros_window, span-pushed}
use Rattle.supplier.specs.Orders.{term, entered, due, Fits}
use Rattle.supplier.specs.Meaning.{Service, Steady, Refused, Taken}
use Rattle.supplier.proofs.Books.{fresh}
use Rattle.two_vendors.specs.Balance.{Balanced}

pub balanced_open : (s : Service) → Steady s → s.days ≡ 0 → Balanced s 0 0
balanced_open s steady new =
    let e = ap (window s.quote) (fresh s.days s.book steady.before new steady.long) ∙ zeros_window horizon s.quote in
    record { even = omega arith; small = zero-le }

-- the orders that the quote reaches back to
window_step : (quote q : ℕ) (book : List ℕ) → quote ≤ horizon → window quote (entered q book) + due quote book q ≡ window quote book + q
window_step quote q book h =
    let e = span-pushed horizon 0 quote q book zero-le h in
    let z : quote - 0 ≡ quote = sub-zero quote in
    subst (λ n. window n (entered q book) + due quote book q ≡ window n book + q) z e

pub record Added (s : Service) (ordered delivered : ℕ) : Type 0 where
  pub balanced : Balanced s ordered delivered
  pub ordered_fits : ordered < 2 ^ 64
  pub delivered_fits : delivered < 2 ^ 64

pub balanced_day : (s t : Service) (q d ordered delivered : ℕ) → Steady s → s.refusal q ≡ None → d ≡ due s.quote s.book q → Taken s q t →
    Balanced s ordered delivered → Added t (ordered + q) (delivered + d)
balanced_day s t q d ordered delivered steady free isdue taken balanced =
    let r : (s.days < term) × Fits s.limit s.book q = subst (Refused s q) free (steady.refusals q) in
    let f : q + 0 ≤ s.limit 1 = r.1 1 (omega arith) (omega arith) in
    let h = steady.high 1 (omega arith) (omega arith) in
    let w = window_step s.quote q s.book steady.near in
    let n : window t.quote t.book ≡ window s.quote (entered q s.book) = λ i. window (taken.quote i) (taken.book i) in
    let m = mul-add most s.days 1 in
    let k = ap (λ x. most * x) taken.days in
    let e = balanced.even in
    let l = balanced.small in
    let u = mul-le-mul_left most r.0 in
    record {
      balanced = record { even = omega arith; small = omega arith };
      ordered_fits = omega arith;
      delivered_fits = omega arith;
    }
