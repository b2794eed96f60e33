-- The orders of a supplier, the newest first, and what a next order does to them.
use Rattle.std.specs.Prelude.{◌≡◌, ℕ, ◌+◌, ◌<◌, ◌≤◌, List, [], ◌∷◌, ◌++◌, take, replicate, slice_index}
use Rattle.figures.specs.Days.{horizon, window, pushed}

-- the last day that can be taken
abbrev pub term : ℕ
term = 1000000

-- the book after the order q is taken
abbrev pub entered : ℕ → List ℕ → List ℕ
entered = pushed horizon

-- the order due on the day that takes q: that of `quote` days before
abbrev pub due : ℕ → List ℕ → ℕ → ℕ
due quote book q = slice_index (q ∷ book) quote

-- for some k up to n, q and the last k-1 orders are above the limit of k days
abbrev pub BreaksWithin : ℕ → (ℕ → ℕ) → List ℕ → ℕ → Type 0
BreaksWithin n limit book q = (k : ℕ) × (1 ≤ k) × (k ≤ n) × (limit k < window k (q ∷ book))

-- for no k up to n
abbrev pub FitsWithin : ℕ → (ℕ → ℕ) → List ℕ → ℕ → Type 0
FitsWithin n limit book q = (k : ℕ) → 1 ≤ k → k ≤ n → window k (q ∷ book) ≤ limit k

-- the order q breaks a window
abbrev pub Breaks : (ℕ → ℕ) → List ℕ → ℕ → Type 0
Breaks = BreaksWithin horizon

-- the order q breaks no window
abbrev pub Fits : (ℕ → ℕ) → List ℕ → ℕ → Type 0
Fits = FitsWithin horizon

-- the book of a supplier that has taken no day
abbrev pub no_orders : List ℕ
no_orders = replicate horizon 0

-- orders before day 1 are 0
abbrev pub Before : ℕ → List ℕ → Type 0
Before days book = (j : ℕ) → days ≤ j → slice_index book j ≡ 0

-- Of all orders taken, the newest first, those of the last n days: 0 before day 1.
unfoldable pub recent : ℕ → List ℕ → List ℕ
recent n orders = take n (orders ++ replicate n 0)

-- All that a supplier with this quote has delivered for these orders: day by day, the order due.
abbrev pub delivered : ℕ → List ℕ → ℕ
delivered quote [] = 0
delivered quote (q ∷ orders) = due quote orders q + delivered quote orders
