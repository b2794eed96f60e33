-- What an assembly means: a function of what lies below it on the left and on the right.
use Rattle.std.specs.Prelude.{◌≡◌, ℕ, ◌+◌, ◌*◌, ◌/◌, min, max, cond, List, ◌++◌, map, Some, None, Option, ◌==◌, nat_lt, slice_index}
use Rattle.figures.specs.Days.{span}
use Rattle.supplier.specs.declared.fault.Cause.TheVariants.{TermSpent, OverDay}
use Rattle.supplier.specs.declared.fault.Fault.{Fault}
use Rattle.supplier.specs.declared.line.Kind.TheVariants as kind
use Rattle.supplier.specs.declared.line.Line.{Line}
use Rattle.supplier.specs.Orders.{term}
use Rattle.supplier.specs.Books.{orders_of}
use Rattle.supplier.specs.Finders.{fault}
use Rattle.supplier.specs.Meaning.{Service, Meaning, Layout}
use Rattle.supplier.specs.Shelves.{Placed}
use Rattle.layers.specs.Carrying.{carries}
use Rattle.layers.specs.Sheets.{topped}
use Rattle.assemblies.specs.declared.kits.Kits.{Kits}

-- the orders below: so many parts for each kit ordered
abbrev pub times : ℕ → List ℕ → List ℕ
times c orders = map (λ x. c * x) orders

-- the kits that both limits allow
abbrev pub shared : (ℕ → ℕ) → (ℕ → ℕ) → ℕ → ℕ → ℕ → ℕ
shared left right a b k = min (left k / a) (right k / b)

-- the first refusal of two
abbrev pub either : Option Fault → Option Fault → Option Fault
either None other = other
either (Some f) other = Some f

-- an assembly's line: held are the parts that came earlier than the other side's
abbrev pub assembly_line : ℕ → ℕ → ℕ → ℕ → ℕ → List ℕ → ℕ → Line
assembly_line number a b early late orders delivered = record {
  number = number;
  kind = kind.Assembly;
  order = slice_index orders 0;
  delivery = delivered;
  held = a * span early (max early late) orders + b * span late (max early late) orders;
}

-- it finds the first two causes itself, and carries the third from the left or else from the right
abbrev pub kits_refusal : ℕ → ℕ → ℕ → Option Fault → Option Fault → ℕ → Option Fault
kits_refusal number days top left right q =
    cond (days == term) (Some (fault TermSpent number (days + 1) 0 term days))
    (cond (nat_lt top q) (Some (fault OverDay number (days + 1) 1 top q))
    (either (carries left) (carries right)))

abbrev pub assembled_service : ℕ → ℕ → ℕ → ℕ → List ℕ → Service → Service → Service
assembled_service number a b days orders left right = record {
  quote = max left.quote right.quote;
  limit = shared left.limit right.limit a b;
  days = days;
  book = orders;
  refusal = λ q. kits_refusal number days (shared left.limit right.limit a b 1) (left.refusal (a * q)) (right.refusal (b * q)) q;
}

abbrev pub assembled : Kits → Meaning → Meaning → Meaning
assembled own left right = record {
  service = assembled_service own.number own.left.per_kit own.right.per_kit own.days (orders_of own.orders) left.service right.service;
  sheet = topped (assembly_line own.number own.left.per_kit own.right.per_kit left.service.quote right.service.quote (orders_of own.orders) own.delivered) (left.sheet ++ right.sheet);
}

-- a layout of both sides, where both are told
abbrev pub joined : (List Line → List Line → List Line) → Option (List Line) → Option (List Line) → Option (List Line)
joined f (Some left) (Some right) = Some (f left right)
joined f (Some left) None = None
joined f None right = None

abbrev pub assembly_layout : ℕ → ℕ → ℕ → ℕ → ℕ → Layout → Layout → Layout
assembly_layout number a b early late left right orders =
    joined (λ x y. topped (assembly_line number a b early late orders (slice_index orders (max early late))) (x ++ y)) (left (times a orders)) (right (times b orders))

-- a shelf on one side: c of its pieces for each kit, its line so many places later
abbrev pub scaled : ℕ → ℕ → Placed → Placed
scaled c places p = record {
  shelf = record { base = p.shelf.base; upto = p.shelf.upto; from = p.shelf.from; pieces = c * p.shelf.pieces };
  place = p.place + places;
}

-- what ties an assembly to one side
pub record Side (below : Meaning) (c : ℕ) (orders : List ℕ) (days : ℕ) : Type 0 where
  pub same : below.service.book ≡ times c orders
  pub together : below.service.days ≡ days

-- what ties an assembly to what lies below it
pub record Joined (left right : Meaning) (own : Kits) : Type 0 where
  pub left_side : Side left own.left.per_kit (orders_of own.orders) own.days
  pub right_side : Side right own.right.per_kit (orders_of own.orders) own.days
  pub left_waits : own.left.waiting ≡ own.left.per_kit * span left.service.quote (max left.service.quote right.service.quote) (orders_of own.orders)
  pub right_waits : own.right.waiting ≡ own.right.per_kit * span right.service.quote (max left.service.quote right.service.quote) (orders_of own.orders)
