-- Limits that rise with each period begun are a table of limits.
use Rattle.std.proofs.Common.{◌≡◌, ℕ, suc, ◌+◌, ◌-◌, ◌*◌, ◌/◌, ◌<◌, ◌≤◌, List, length, get_or, ap, ⊎_elim, mul-le-mul_left, arith}
use Rattle.std.proofs.lemmas.List.{get_or_past}
use Rattle.std.proofs.lemmas.Bool.{cases_lt}
use Rattle.figures.specs.Days.{horizon, most}
use Rattle.figures.proofs.Quotients.{div_grows}
use Rattle.supplier.specs.Limits.{High, Grows}
use Rattle.vendors.specs.Periods.{periods, Rises}

pub periods_grow : (period j k : ℕ) → 1 ≤ period → j ≤ k → periods period j ≤ periods period k
periods_grow period j k p h = div_grows (j + (period - 1)) (k + (period - 1)) period (omega arith) (omega arith)

-- the periods that i + 1 days begin
pub periods_next : (period i : ℕ) → 1 ≤ period → (i + period) / period ≡ periods period (suc i)
periods_next period i p = let e : i + period ≡ suc i + (period - 1) = omega arith in ap (λ n. n / period) e

module _ (period amount : ℕ) (bounds : List ℕ) (rises : Rises period amount bounds) (some : 1 ≤ period) where
  pub rises_high : length bounds ≡ horizon → amount * periods period horizon ≤ most → High bounds
  rises_high wide few i = ⊎_elim
      (λ (h : i < horizon).
      let e = rises (suc i) (omega arith) (omega arith) in
      let g = periods_grow period (suc i) horizon some (omega arith) in
      let m = mul-le-mul_left amount g in
      omega arith)
      (λ (h : horizon ≤ i). let e = get_or_past bounds i 0 (omega arith) in omega arith)
      (cases_lt i horizon)

  pub rises_grow : Grows bounds
  rises_grow i h =
      let n : i + 1 ≡ suc i = omega arith in
      let a = rises (suc i) (omega arith) (omega arith) in
      let b = rises (suc (suc i)) (omega arith) (omega arith) in
      let c : get_or bounds (i + 1) 0 ≡ get_or bounds (suc i) 0 = ap (λ j. get_or bounds j 0) n in
      let m = mul-le-mul_left amount (periods_grow period (suc i) (suc (suc i)) some (omega arith)) in
      omega arith
