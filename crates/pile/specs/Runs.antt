-- What every list of calls at a supplier keeps, said of the orders that were taken from day 1, the newest first.
use Rattle.std.specs.Prelude.{◌≡◌, ℕ, ◌+◌, ◌-◌, ◌*◌, ◌<◌, ◌≤◌, List, [], ◌∷◌, map, length, take, drop, slice_index, IfSome, Some, None, Ok, Err, Option}
use Rattle.std.specs.List.{slice_get, AllByRecursion}
use Rattle.figures.specs.Days.{horizon, total}
use Rattle.supplier.specs.declared.line.Line.{Line as Row}
use Rattle.supplier.specs.Orders.{due, recent}
use Rattle.supplier.specs.Limits.{told_limit}
use Rattle.supplier.specs.Meaning.{Meaning, Layout, Laid, RefusedBy, most_lines}
use Rattle.supplier.specs.Shelves.{Shelf, Placed, Tells, OwnFirst, figures_of, owed, held, allowed}
use Rattle.pile.specs.declared.calls.Call.{Call}
use Rattle.pile.specs.declared.calls.Call.TheVariants as call
use Rattle.pile.specs.declared.calls.Event.{Event}
use Rattle.pile.specs.declared.calls.Event.TheVariants.{Trial, Day, Quote, Limit, Days, Lines, Line}
use Rattle.pile.specs.Events.{asked, after, taken, Took}

-- what never changes of a supplier
pub record Terms : Type 0 where
  pub quote : ℕ
  pub limit : ℕ → ℕ
  pub layout : Layout
  pub shelves : List Shelf

-- what a supplier is at a time: its meaning, and the shelves at and below it with the places of their lines
pub record State : Type 0 where
  pub meaning : Meaning
  pub shelves : List Placed

-- the least that a shelf may hold: its base stock less its pieces of the most pieces of its net time
abbrev pub lowest : (ℕ → ℕ) → Shelf → ℕ
lowest bound h = h.base - h.pieces * bound (h.from - h.upto)

-- A shelf after these orders.
pub record Stocked (bound : ℕ → ℕ) (orders : List ℕ) (sheet : List Row) (p : Placed) : Type 0 where
  -- it has not fallen below nothing: the orders to be taken off its base stock do not exceed it
  pub whole : owed p.shelf orders ≤ p.shelf.base
  pub low : lowest bound p.shelf ≤ held p.shelf orders
  -- the sheet's line at its place tells what it holds
  pub printed : p.place < most_lines → Tells (slice_get sheet p.place) (held p.shelf orders)

-- every window of the orders is within the bound of its days
abbrev pub Within : (ℕ → ℕ) → List ℕ → Type 0
Within bound orders = (j k : ℕ) → k ≤ horizon → total (take k (drop j orders)) ≤ bound k

-- A supplier that has taken these orders from day 1.
pub record Stands (t : Terms) (orders : List ℕ) (s : State) : Type 0 where
  pub quote : s.meaning.service.quote ≡ t.quote
  pub limit : s.meaning.service.limit ≡ t.limit
  pub days : s.meaning.service.days ≡ length orders
  pub book : s.meaning.service.book ≡ recent horizon orders
  pub within : Within (allowed t.limit) orders
  pub figures : figures_of s.shelves ≡ t.shelves
  pub stocks : AllByRecursion (Stocked (allowed t.limit) orders s.meaning.sheet) s.shelves

-- What a call tells after these orders, at a supplier that is s before it and k after it.
-- A trial or a day is refused exactly when the term is spent or its order breaks a window of these orders;
-- a day that is taken answers the order of the quoted days before; all else leaves the supplier as it was.
abbrev pub Shown : Terms → List ℕ → State → Event → State → Type 0
Shown t orders s (Trial q r) k =
    RefusedBy t.limit (length orders) orders q r × (r ≡ s.meaning.service.refusal q) × (k ≡ s)
Shown t orders s (Day q (Ok d)) k =
    RefusedBy t.limit (length orders) orders q None × (s.meaning.service.refusal q ≡ None)
    × (d ≡ due t.quote orders q) × Laid (t.layout (q ∷ recent horizon orders)) k.meaning.sheet
Shown t orders s (Day q (Err f)) k =
    RefusedBy t.limit (length orders) orders q (Some f) × (s.meaning.service.refusal q ≡ Some f) × (k.meaning ≡ s.meaning)
Shown t orders s (Quote n) k = (n ≡ t.quote) × (k ≡ s)
Shown t orders s (Limit i r) k = (r ≡ told_limit t.limit i) × (k ≡ s)
Shown t orders s (Days n) k = (n ≡ length orders) × (k ≡ s)
Shown t orders s (Lines n) k = (n ≡ length s.meaning.sheet) × (k ≡ s)
Shown t orders s (Line i r) k = (r ≡ slice_get s.meaning.sheet i) × (k ≡ s)

-- every call in its turn, from a supplier s that has taken these orders to a supplier k
abbrev pub History : Terms → List ℕ → State → List Event → State → Type 0
History t orders s [] k = k ≡ s
History t orders s (e ∷ es) k =
    (m : State) × Shown t orders s e m × Stands t (after orders e) m × History t (after orders e) m es k

-- a list of calls and their answers at a supplier that has taken these orders
pub record Run (t : Terms) (orders : List ℕ) (s : State) (calls : List Call) (events : List Event) (k : State) : Type 0 where
  pub each : map asked events ≡ calls
  pub history : History t orders s events k
  pub ends : Stands t (taken orders events) k

-- The calls are the days of the climbing list, and nothing else: a day for each of the horizon,
-- and each orders what one more day adds to the bound.
pub record Climbing (bound : ℕ → ℕ) (calls : List Call) : Type 0 where
  pub orders : List ℕ
  pub days : calls ≡ map call.Day orders
  pub long : length orders ≡ horizon
  pub steps : (k : ℕ) → k < horizon → slice_index orders k ≡ bound (k + 1) - bound k

-- some day of the list leaves the shelf at its lowest point
abbrev pub Reached : (ℕ → ℕ) → List Event → Shelf → Type 0
Reached bound events h = (n : ℕ) × (1 ≤ n) × (n ≤ horizon) × (held h (taken [] (take n events)) ≡ lowest bound h)

-- A stage with this envelope on top.
pub record Summit (t : Terms) (bound : ℕ → ℕ) (calls : List Call) (events : List Event) : Type 0 where
  -- its own shelf is among the shelves
  pub own : OwnFirst t.quote t.shelves
  -- the lowest points of the shelves are those of the envelope
  pub bounds : (k : ℕ) → k ≤ horizon → allowed t.limit k ≡ bound k
  -- the climbing list alone is taken whole
  pub climbed : Climbing bound calls → AllByRecursion Took events
  -- and brings each shelf to its lowest point
  pub reached : Climbing bound calls → AllByRecursion (Reached bound events) t.shelves

-- What a new supplier keeps over a whole list of calls.
pub record Kept (t : Terms) (envelope : Option (ℕ → ℕ)) (s : State) (calls : List Call) (events : List Event) (k : State) : Type 0 where
  pub starts : Stands t [] s
  pub run : Run t [] s calls events k
  pub top : IfSome envelope (λ bound. Summit t bound calls events)
