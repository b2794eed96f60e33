-- Figures within their ranges, and the first that is not.
use Rattle.std.specs.Prelude.{ℕ, ◌+◌, ◌-◌, ◌<◌, ◌≤◌, List, length, slice_index, slice_index_or}
use Rattle.figures.specs.declared.ranges.Range.{Range}

abbrev pub Within : Range → ℕ → Type 0
Within range x = (range.low ≤ x) × (x ≤ range.high)

-- stands for a range that a list lacks
abbrev pub missing : Range
missing = record { low = 0; high = 0 }

-- the figure with i others to its left is in its range, if it has one
abbrev pub Good : List Range → List ℕ → ℕ → Type 0
Good ranges figures i = i < length ranges → Within (slice_index_or ranges i missing) (slice_index figures i)

abbrev pub AllIn : List Range → List ℕ → Type 0
AllIn ranges figures = (i : ℕ) → i < length figures → Good ranges figures i

-- the figure at this place, counted from 1, is outside its range, and none before it is
pub record FirstOut (ranges : List Range) (figures : List ℕ) (place : ℕ) : Type 0 where
  pub from_one : 1 ≤ place
  pub there : place ≤ length figures
  pub outside : Good ranges figures (place - 1) → ⊥
  pub first : (i : ℕ) → i + 1 < place → Good ranges figures i
