-- The window that an order breaks first.
use Rattle.std.specs.Prelude.{ℕ, ◌<◌, ◌≤◌, List, ◌∷◌, Option, nat_lt}
use Rattle.std.specs.Option.{option_map}
use Rattle.figures.specs.Days.{horizon, window}
use Rattle.figures.specs.Least.{least}
use Rattle.supplier.specs.declared.book.broken.Broken.{Broken}

-- no window of fewer than k days is broken
abbrev pub Clear : (ℕ → ℕ) → List ℕ → ℕ → ℕ → Type 0
Clear limit book q k = (j : ℕ) → 1 ≤ j → j < k → window j (q ∷ book) ≤ limit j

-- the least k up to n for which q and the last k-1 orders are above the limit of k days
unfoldable pub least_broken : ℕ → (ℕ → ℕ) → List ℕ → ℕ → Option ℕ
least_broken n limit book q = least (λ k. nat_lt (limit k) (window k (q ∷ book))) 1 n

-- a window of k days, with its limit and its sum
abbrev pub broken_at : (ℕ → ℕ) → List ℕ → ℕ → ℕ → Broken
broken_at limit book q k = record { window = k; bound = limit k; sum = window k (q ∷ book) }

-- the shortest window that q breaks, or none
abbrev pub first_broken : (ℕ → ℕ) → List ℕ → ℕ → Option Broken
first_broken limit book q = option_map (broken_at limit book q) (least_broken horizon limit book q)
