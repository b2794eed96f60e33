-- Limits as a table and as a function of the number of days, and those that rise with each period of days.
use Rattle.std.specs.Prelude.{◌≡◌, ℕ, ◌+◌, ◌-◌, ◌*◌, ◌/◌, ◌≤◌, List}
use Rattle.figures.specs.Days.{for_days, horizon}
use Rattle.vendors.specs.Departures.{week}

-- a table that tells this function of the number of days
abbrev pub Tells : (ℕ → ℕ) → List ℕ → Type 0
Tells limit bounds = (k : ℕ) → 1 ≤ k → k ≤ horizon → for_days bounds k ≡ limit k

-- the periods that k days begin: k over the period, rounded up
abbrev pub periods : ℕ → ℕ → ℕ
periods period k = (k + (period - 1)) / period

-- a table whose limit of k days is the amount times the periods that k days begin
abbrev pub Rises : ℕ → ℕ → List ℕ → Type 0
Rises period amount = Tells (λ k. amount * periods period k)

-- a pipeline vendor's limit of k days
abbrev pub daily : ℕ → ℕ → ℕ
daily max k = k * max

-- a calendar vendor's limit of k days: the bound for each week that they begin
abbrev pub weekly : ℕ → ℕ → ℕ
weekly bound k = bound * periods week k

-- no pieces, of however many days
abbrev pub nothing : ℕ → ℕ
nothing k = 0

-- the most that the most pieces of a day can be
abbrev pub most_daily : ℕ
most_daily = 10000000

-- the most that the bound of a week can be
abbrev pub most_weekly : ℕ
most_weekly = 70000000

-- the longest that the travel can be
abbrev pub most_travel : ℕ
most_travel = 49
