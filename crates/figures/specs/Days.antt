-- Amounts day by day, and their sums. The length of the horizon is named once, here.
use Rattle.std.specs.Prelude.{ℕ, ◌+◌, cond, List, [], ◌∷◌, take, Some, None, Option, nat_lt, slice_index, slice_range}

-- how many days quotes, windows and books reach
abbrev pub horizon : ℕ
horizon = 63

-- the most pieces of any limit, bound or base stock
abbrev pub most : ℕ
most = 1000000000

-- what a table for 1 day, 2 days and so on has for k days; 0 for none
abbrev pub for_days : List ℕ → ℕ → ℕ
for_days table k = slice_index (0 ∷ table) k

-- a reading for k days: absent beyond the horizon
abbrev pub near : ℕ → ℕ → Option ℕ
near k x = cond (nat_lt horizon k) None (Some x)

-- a list of n amounts after one more: it stands first, and the last is forgotten
abbrev pub pushed : ℕ → ℕ → List ℕ → List ℕ
pushed n x xs = take n (x ∷ xs)

abbrev pub total : List ℕ → ℕ
total [] = 0
total (x ∷ xs) = x + total xs

-- the first k amounts together; of a book, which has the newest first, the orders of the last k days
abbrev pub window : ℕ → List ℕ → ℕ
window k xs = total (take k xs)

-- the amounts at the places from `upto` to just before `from`; of a book, the orders of the days t-from+1 to t-upto
abbrev pub span : ℕ → ℕ → List ℕ → ℕ
span upto from xs = total (slice_range xs upto from)
