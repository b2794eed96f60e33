-- What a stage means, from its own figures and from what lies below it.
use Rattle.std.specs.Prelude.{◌≡◌, ℕ, ◌+◌, ◌-◌, ◌<◌, ◌≤◌, List, take, drop, slice_index}
use Rattle.std.specs.Option.{option_map}
use Rattle.figures.specs.Days.{horizon, for_days, total, span}
use Rattle.supplier.specs.declared.line.Kind.TheVariants as kind
use Rattle.supplier.specs.declared.line.Line.{Line}
use Rattle.supplier.specs.Books.{orders_of}
use Rattle.supplier.specs.Finders.{finder}
use Rattle.supplier.specs.Meaning.{Meaning, Layout}
use Rattle.supplier.specs.Shelves.{Placed}
use Rattle.layers.specs.Sheets.{topped}
use Rattle.stages.specs.declared.stock.Stock.{Stock}

-- a stage's line: its shelf holds the base stock less the orders of the days t-from+1 to t-quote
abbrev pub stage_line : ℕ → ℕ → ℕ → ℕ → List ℕ → ℕ → Line
stage_line number base quote from orders delivered =
    record { number = number; kind = kind.Stage; order = slice_index orders 0; delivery = delivered; held = base - span quote from orders }

-- the orders of a stage
abbrev pub book_of : Stock → List ℕ
book_of own = orders_of own.ledger.book

-- the bound of k days
abbrev pub bound_of : Stock → ℕ → ℕ
bound_of own = for_days own.ledger.limits.bounds

abbrev pub staged : Stock → Meaning → Meaning
staged own below = record {
  service = finder own.ledger.number own.quote (bound_of own) own.ledger.days (book_of own);
  sheet = topped (stage_line own.ledger.number own.base own.quote (below.service.quote + own.process) (book_of own) own.delivered) below.sheet;
}

abbrev pub stage_layout : ℕ → ℕ → ℕ → ℕ → Layout → Layout
stage_layout number base quote from below orders =
    option_map (topped (stage_line number base quote from orders (slice_index orders quote))) (below orders)

-- a stage's own shelf, whose line is the first
abbrev pub own_shelf : ℕ → ℕ → ℕ → Placed
own_shelf base quote from = record { shelf = record { base = base; upto = quote; from = from; pieces = 1 }; place = 0 }

-- every stretch of k orders in a book is within the bound of k days
abbrev pub WithinBounds : ℕ → (ℕ → ℕ) → List ℕ → Type 0
WithinBounds n bound book = (j k : ℕ) → j + k ≤ n → total (take k (drop j book)) ≤ bound k

-- what ties a stage to what lies below it
pub record Tied (below : Meaning) (own : Stock) : Type 0 where
  pub same : book_of own ≡ below.service.book
  pub together : own.ledger.days ≡ below.service.days
  pub early : own.quote ≤ below.service.quote + own.process
  pub within : below.service.quote + own.process ≤ horizon
  pub under : (k : ℕ) → 1 ≤ k → k ≤ horizon → bound_of own k ≤ below.service.limit k
  pub room : bound_of own ((below.service.quote + own.process) - own.quote) ≤ own.base
  pub bounded : WithinBounds horizon (bound_of own) (book_of own)
  -- what is on the shelf, and what was taken off it and is not replaced yet
  pub stock : own.shelf + span own.quote (below.service.quote + own.process) (book_of own) ≡ own.base
  pub coming : (j : ℕ) → j < own.process → slice_index (orders_of own.works) j ≡ slice_index (book_of own) (below.service.quote + j)
