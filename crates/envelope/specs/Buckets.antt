-- The curve of a bucket, the ranges of its figures and their law.
use Rattle.std.specs.Prelude.{◌≡◌, ℕ, ◌+◌, ◌*◌, ◌<◌, min, List, [], ◌∷◌, None}
use Rattle.figures.specs.declared.ranges.Range.{Range}
use Rattle.figures.specs.Refusals.{Answered}
use Rattle.envelope.specs.Curves.{Curve, daily}

-- the range of the burst
abbrev pub bursts : Range
bursts = record { low = 0; high = 50000000 }

-- the ranges of peak, burst and mean
abbrev pub bucket_ranges : List Range
bucket_ranges = daily ∷ bursts ∷ daily ∷ []

-- the peak, in the first place, is below the mean
abbrev pub BelowMean : ℕ → ℕ → ℕ → Type 0
BelowMean peak mean p = (p ≡ 1) × (peak < mean)

-- the figures pass the question
abbrev pub BucketPasses : ℕ → ℕ → ℕ → Type 0
BucketPasses peak burst mean = Answered bucket_ranges (peak ∷ burst ∷ mean ∷ []) (BelowMean peak mean) None

-- k days at the peak, or the burst and k days at the mean, whichever is less
abbrev pub bucket_curve : ℕ → ℕ → ℕ → Curve
bucket_curve peak burst mean = record { bound = λ k. min (k * peak) (burst + k * mean); mean = mean }
