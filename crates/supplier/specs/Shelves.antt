-- The shelves of the stages at and below a supplier.
use Rattle.std.specs.Prelude.{◌≡◌, ℕ, zero, suc, ◌-◌, ◌*◌, ◌<◌, ◌≤◌, List, [], ◌∷◌, map, Some, None, Option}
use Rattle.std.specs.List.{slice_get}
use Rattle.figures.specs.Days.{horizon, span}
use Rattle.figures.specs.Joins.{Joins}
use Rattle.supplier.specs.declared.line.Kind.TheVariants as kind
use Rattle.supplier.specs.declared.line.Line.{Line}
use Rattle.supplier.specs.Meaning.{Meaning, most_lines}

-- A stage's shelf, by figures that never change: its base stock, the days that it is stocked for,
-- and its pieces for each piece ordered here.
pub record Shelf : Type 0 where
  pub base : ℕ
  pub upto : ℕ
  pub from : ℕ
  pub pieces : ℕ

-- a shelf, and where its line stands in the present sheet, counted before the cut
pub record Placed : Type 0 where
  pub shelf : Shelf
  pub place : ℕ

-- the figures of shelves, wherever their lines stand
abbrev pub figures_of : List Placed → List Shelf
figures_of = map (λ p. p.shelf)

-- the pieces to be taken off the base stock: the orders of the days t-from+1 to t-upto
abbrev pub owed : Shelf → List ℕ → ℕ
owed h orders = h.pieces * span h.upto h.from orders

-- what the shelf holds
abbrev pub held : Shelf → List ℕ → ℕ
held h orders = h.base - owed h orders

-- the most pieces of k days, none of no days
abbrev pub allowed : (ℕ → ℕ) → ℕ → ℕ
allowed limit zero = 0
allowed limit (suc k) = limit (suc k)

-- a stage's line that tells n pieces held
abbrev pub Tells : Option Line → ℕ → Type 0
Tells None n = ⊥
Tells (Some line) n = (line.kind ≡ kind.Stage) × (line.held ≡ n)

-- what holds of every shelf of a supplier
pub record Shelved (m : Meaning) (p : Placed) : Type 0 where
  pub order : p.shelf.upto ≤ p.shelf.from
  pub near : p.shelf.from ≤ horizon
  -- the base stock covers the most pieces of the net time
  pub room : p.shelf.pieces * allowed m.service.limit (p.shelf.from - p.shelf.upto) ≤ p.shelf.base
  -- the line that is told at its place is its own
  pub told : p.place < most_lines → Tells (slice_get m.sheet p.place) (held p.shelf m.service.book)

-- the first shelf is that of the supplier itself: a stage that delivers from it on the quoted day
abbrev pub OwnFirst : ℕ → List Shelf → Type 0
OwnFirst quote [] = ⊥
OwnFirst quote (h ∷ hs) = (h.upto ≡ quote) × (h.pieces ≡ 1)

-- A stage: its limit is its envelope, of no days to the horizon, and its own shelf stands first.
pub record Enveloped (m : Meaning) (shelves : List Placed) (bound : ℕ → ℕ) : Type 0 where
  pub none : bound 0 ≡ 0
  pub joins : Joins bound
  pub same : (k : ℕ) → 1 ≤ k → k ≤ horizon → m.service.limit k ≡ bound k
  pub own : OwnFirst m.service.quote (figures_of shelves)
