-- The calls that events answer, and the orders that they take.
use Rattle.std.specs.Prelude.{ℕ, List, [], ◌∷◌, Ok, Err}
use Rattle.pile.specs.declared.calls.Call.{Call}
use Rattle.pile.specs.declared.calls.Call.TheVariants as call
use Rattle.pile.specs.declared.calls.Event.{Event}
use Rattle.pile.specs.declared.calls.Event.TheVariants.{Trial, Day, Quote, Limit, Days, Lines, Line}

-- the call that an event answers
abbrev pub asked : Event → Call
asked (Trial q r) = call.Trial q
asked (Day q r) = call.Day q
asked (Quote n) = call.Quote
asked (Limit k r) = call.Limit k
asked (Days n) = call.Days
asked (Lines n) = call.Lines
asked (Line i r) = call.Line i

-- the orders taken, the newest first, after one more event: only a day that is taken adds one
abbrev pub after : List ℕ → Event → List ℕ
after orders (Trial q r) = orders
after orders (Day q (Ok d)) = q ∷ orders
after orders (Day q (Err f)) = orders
after orders (Quote n) = orders
after orders (Limit k r) = orders
after orders (Days n) = orders
after orders (Lines n) = orders
after orders (Line i r) = orders

-- the orders taken after a list of events
abbrev pub taken : List ℕ → List Event → List ℕ
taken orders [] = orders
taken orders (e ∷ es) = taken (after orders e) es

-- a day that was taken
abbrev pub Took : Event → Type 0
Took (Trial q r) = ⊥
Took (Day q (Ok d)) = Unit {0}
Took (Day q (Err f)) = ⊥
Took (Quote n) = ⊥
Took (Limit k r) = ⊥
Took (Days n) = ⊥
Took (Lines n) = ⊥
Took (Line i r) = ⊥
