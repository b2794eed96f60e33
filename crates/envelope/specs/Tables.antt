-- The curve of a table of bounds, the ranges of its figures and the laws that they can break.
use Rattle.std.specs.Prelude.{◌≡◌, ℕ, ◌+◌, ◌-◌, ◌*◌, ◌<◌, ◌≤◌, ◌⊎◌, List, ◌∷◌, replicate, None}
use Rattle.figures.specs.declared.ranges.Range.{Range}
use Rattle.figures.specs.Days.{horizon, most, for_days}
use Rattle.figures.specs.Refusals.{Answered}
use Rattle.envelope.specs.Curves.{Curve, daily}

-- the ranges of the bounds
abbrev pub bound_ranges : List Range
bound_ranges = replicate horizon (record { low = 0; high = most })

-- the ranges of the mean and of the bounds
abbrev pub table_ranges : List Range
table_ranges = daily ∷ bound_ranges

-- the bound of k days is below that of a day less
abbrev pub Falls : List ℕ → ℕ → Type 0
Falls bounds k = for_days bounds k < for_days bounds (k - 1)

-- the bound of k days is below k days at the mean
abbrev pub UnderMean : ℕ → List ℕ → ℕ → Type 0
UnderMean mean bounds k = for_days bounds k < k * mean

-- the bound of k days is above the bounds of two parts of them
abbrev pub Torn : List ℕ → ℕ → Type 0
Torn bounds k =
    (i : ℕ) × (j : ℕ) × (1 ≤ i) × (1 ≤ j) × (i + j ≡ k) × (for_days bounds i + for_days bounds j < for_days bounds k)

-- the bound of k days breaks a law
abbrev pub Breaks : ℕ → List ℕ → ℕ → Type 0
Breaks mean bounds k = Falls bounds k ⊎ (UnderMean mean bounds k ⊎ Torn bounds k)

-- the figure at place p is a bound that breaks a law; the mean has the first place
abbrev pub BrokenAt : ℕ → List ℕ → ℕ → Type 0
BrokenAt mean bounds p = (k : ℕ) × (p ≡ k + 1) × (1 ≤ k) × (k ≤ horizon) × Breaks mean bounds k

-- no bound is above the most pieces
abbrev pub Bounded : List ℕ → Type 0
Bounded bounds = (k : ℕ) → k ≤ horizon → for_days bounds k ≤ most

-- no bound up to that of k days breaks a law
abbrev pub Unbroken : ℕ → List ℕ → ℕ → Type 0
Unbroken mean bounds k = (j : ℕ) → 1 ≤ j → j ≤ k → Breaks mean bounds j → ⊥

-- the bound of k days is the first that breaks a law
pub record FirstBroken (mean : ℕ) (bounds : List ℕ) (k : ℕ) : Type 0 where
  pub from_one : 1 ≤ k
  pub near : k ≤ horizon
  pub breaks : Breaks mean bounds k
  pub first : Unbroken mean bounds (k - 1)

-- the figures pass the question
abbrev pub TablePasses : ℕ → List ℕ → Type 0
TablePasses mean bounds = Answered table_ranges (mean ∷ bounds) (BrokenAt mean bounds) None

-- the bounds of the table, and its mean
abbrev pub table_curve : ℕ → List ℕ → Curve
table_curve mean bounds = record { bound = for_days bounds; mean = mean }
