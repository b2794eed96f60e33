-- Sums over stretches of a list.
use Rattle.std.proofs.Common.{◌≡◌, ℕ, zero, suc, ◌+◌, ◌-◌, ◌<◌, ◌≤◌, List, get_or, add-one, arith}
use Rattle.figures.specs.Days.{window}
use Rattle.figures.proofs.Totals.{window-suc}

-- the steps of what grows from 0 sum up to it
pub steps_sum : (f : ℕ → ℕ) (n : ℕ) (xs : List ℕ) → f 0 ≡ 0 → ((k : ℕ) → k < n → f k ≤ f (k + 1)) →
    ((k : ℕ) → k < n → get_or xs k 0 ≡ f (k + 1) - f k) → (k : ℕ) → k ≤ n → window k xs ≡ f k
steps_sum f n xs start grows steps zero h = omega arith
steps_sum f n xs start grows steps (suc k) h =
    let before = steps_sum f n xs start grows steps k (omega arith) in
    let step = steps k h in
    let up = grows k h in
    let sum = window-suc k xs in
    rw (add-one k) at (let w : window (suc k) xs ≡ f (k + 1) = omega arith in w)
