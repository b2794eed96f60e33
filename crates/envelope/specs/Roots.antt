-- The least root of a number, the curve of a root envelope, and the ranges of its figures.
use Rattle.std.specs.Prelude.{ℕ, suc, ◌+◌, ◌*◌, ◌≤◌, List, [], ◌∷◌, None, nat_le}
use Rattle.figures.specs.declared.ranges.Range.{Range}
use Rattle.std.specs.Option.{unwrap_or}
use Rattle.figures.specs.Least.{least}
use Rattle.figures.specs.Refusals.{Answered, NoLaw}
use Rattle.envelope.specs.Curves.{Curve, daily}

-- r is the least number whose square reaches n
abbrev pub LeastRoot : ℕ → ℕ → Type 0
LeastRoot n r = (n ≤ r * r) × ((s : ℕ) → n ≤ s * s → r ≤ s)

-- the least root of n: none is above n
unfoldable pub root_up : ℕ → ℕ
root_up n = unwrap_or (least (λ r. nat_le n (r * r)) 0 (suc n)) 0

-- the range of w
abbrev pub spread : Range
spread = record { low = 0; high = 1000000000000 }

-- the ranges of the mean and of w
abbrev pub root_ranges : List Range
root_ranges = daily ∷ spread ∷ []

-- the figures pass the question
abbrev pub RootPasses : ℕ → ℕ → Type 0
RootPasses mean w = Answered root_ranges (mean ∷ w ∷ []) NoLaw None

-- k days at the mean, and the root of k times w above it
abbrev pub root_curve : ℕ → ℕ → Curve
root_curve mean w = record { bound = λ k. k * mean + root_up (k * w); mean = mean }
