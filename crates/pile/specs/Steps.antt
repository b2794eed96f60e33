-- One call, by the supplier before and after it.
use Rattle.std.specs.Prelude.{◌≡◌, List, length}
use Rattle.std.specs.List.{slice_get}
use Rattle.supplier.specs.Limits.{told_limit}
use Rattle.supplier.specs.Meaning.{Meaning, Layout}
use Rattle.supplier.specs.Meaning.{Day as Does}
use Rattle.supplier.specs.Shelves.{Placed, figures_of}
use Rattle.supplier.specs.declared.supplier.Supplier.{Ghosts}
use Rattle.pile.specs.declared.calls.Event.{Event}
use Rattle.pile.specs.declared.calls.Event.TheVariants.{Trial, Day, Quote, Limit, Days, Lines, Line}
use Rattle.pile.specs.Runs.{Terms, State}

abbrev pub state : Meaning → List Placed → State
state m placed = record { meaning = m; shelves = placed }

abbrev pub terms : Meaning → Layout → List Placed → Terms
terms m layout placed = record { quote = m.service.quote; limit = m.service.limit; layout = layout; shelves = figures_of placed }

-- what a supplier is now, and what never changes of it
abbrev pub state_of : {S : Type 0} → Ghosts S → S → State
state_of supplier s = state (supplier.meaning s) (supplier.shelves s)

abbrev pub terms_of : {S : Type 0} → Ghosts S → S → Terms
terms_of supplier s = terms (supplier.meaning s) (supplier.layout s) (supplier.shelves s)

-- what a call answers, and what it leaves
abbrev pub Answered : Layout → State → Event → State → Type 0
Answered layout s (Trial q r) k = (r ≡ s.meaning.service.refusal q) × (k ≡ s)
Answered layout s (Day q r) k = Does layout s.meaning q r k.meaning
Answered layout s (Quote n) k = (n ≡ s.meaning.service.quote) × (k ≡ s)
Answered layout s (Limit i r) k = (r ≡ told_limit s.meaning.service.limit i) × (k ≡ s)
Answered layout s (Days n) k = (n ≡ s.meaning.service.days) × (k ≡ s)
Answered layout s (Lines n) k = (n ≡ length s.meaning.sheet) × (k ≡ s)
Answered layout s (Line i r) k = (r ≡ slice_get s.meaning.sheet i) × (k ≡ s)
