-- What a delay means: a function of what lies below it and of its own figures.
use Rattle.std.specs.Prelude.{◌≡◌, ℕ, ◌+◌, ◌<◌, ◌≤◌, List, slice_index}
use Rattle.std.specs.Option.{option_map}
use Rattle.figures.specs.Days.{horizon, most, span}
use Rattle.supplier.specs.declared.line.Kind.TheVariants as kind
use Rattle.supplier.specs.declared.line.Line.{Line}
use Rattle.supplier.specs.Books.{orders_of}
use Rattle.supplier.specs.Meaning.{Service, Meaning, Layout}
use Rattle.layers.specs.Carrying.{carries}
use Rattle.layers.specs.Sheets.{topped}
use Rattle.delays.specs.declared.transit.Transit.{Transit}

-- a delay's line: in transit are the orders of the days that were received and are not handed on yet
abbrev pub delay_line : ℕ → ℕ → ℕ → List ℕ → ℕ → Line
delay_line number delay early orders delivered =
    record { number = number; kind = kind.Delay; order = slice_index orders 0; delivery = delivered; held = span early (early + delay) orders }

abbrev pub delayed_service : ℕ → Service → Service
delayed_service delay below = record {
  quote = below.quote + delay;
  limit = below.limit;
  days = below.days;
  book = below.book;
  refusal = λ q. carries (below.refusal q);
}

abbrev pub delayed : Transit → Meaning → Meaning
delayed own below = record {
  service = delayed_service own.delay below.service;
  sheet = topped (delay_line own.number own.delay below.service.quote below.service.book own.delivered) below.sheet;
}

abbrev pub delay_layout : ℕ → ℕ → ℕ → Layout → Layout
delay_layout number delay early below orders =
    option_map (topped (delay_line number delay early orders (slice_index orders (early + delay)))) (below orders)

-- what ties a delay to what lies below it
pub record Late (below : Meaning) (own : Transit) : Type 0 where
  -- the quotes together are within the horizon
  pub near : below.service.quote + own.delay ≤ horizon
  -- every order was within the limit of its day
  pub small : (j : ℕ) → slice_index below.service.book j ≤ most
  -- what is in transit was ordered as long ago as the quote below says
  pub coming : (j : ℕ) → j < own.delay → slice_index (orders_of own.received) j ≡ slice_index below.service.book (below.service.quote + j)
  pub last : own.ordered ≡ slice_index below.service.book 0
