-- The departure days of a weekly calendar, and how long an order waits for one.
use Rattle.std.specs.Prelude.{◌≡◌, ℕ, zero, suc, ◌+◌, ◌-◌, ◌/◌, ◌%◌, ◌^◌, ◌<◌, ◌≤◌, max, Bool, true, false, cond, ◌==◌}
use Rattle.std.specs.Option.{unwrap_or}
use Rattle.figures.specs.Least.{least}

-- the days of a week
abbrev pub week : ℕ
week = 7

-- the bit of value 2^p of the mask is set
abbrev pub bit : ℕ → ℕ → Bool
bit mask p = (mask / 2 ^ p) % 2 == 1

-- day t is a departure day: days run from 1, and a week is 7 of them
abbrev pub departs : ℕ → ℕ → Bool
departs mask t = bit mask ((t - 1) % week)

-- an order of day t leaves on day u: the first departure day not before t
pub record Leaves (mask t u : ℕ) : Type 0 where
  pub later : t ≤ u
  pub goes : departs mask u ≡ true
  pub first : (d : ℕ) → t ≤ d → d < u → departs mask d ≡ false

-- how many of the first n numbers pass
abbrev pub count : (ℕ → Bool) → ℕ → ℕ
count test zero = 0
count test (suc n) = count test n + cond (test n) 1 0

-- the departures in a week
unfoldable pub departures : ℕ → ℕ
departures mask = count (bit mask) week

-- the days that an order waits, p days after the week began
unfoldable pub wait : ℕ → ℕ → ℕ
wait mask p = unwrap_or (least (λ i. bit mask ((p + i) % week)) 0 week) 0

-- the largest of the first n values of a function
abbrev pub greatest : (ℕ → ℕ) → ℕ → ℕ
greatest f zero = 0
greatest f (suc n) = max (greatest f n) (f n)

-- the longest wait of any day of the week
unfoldable pub longest : ℕ → ℕ
longest mask = greatest (wait mask) week

-- What a quote keeps: every order has arrived by its quoted day, and some order arrives on that very day.
pub record Timely (mask travel quote : ℕ) : Type 0 where
  pub arrives : (t : ℕ) → 1 ≤ t → (u : ℕ) × Leaves mask t u × (u + travel ≤ t + quote)
  pub tight : (t : ℕ) × (1 ≤ t) × ((u : ℕ) × Leaves mask t u × (u + travel ≡ t + quote))
