-- What a supplier means, what holds of every meaning, and what a day does to it.
use Rattle.std.specs.Prelude.{◌≡◌, ℕ, ◌+◌, ◌<◌, ◌≤◌, List, ◌∷◌, length, Some, None, Ok, Err, Option, Result}
use Rattle.figures.specs.Days.{horizon, most}
use Rattle.supplier.specs.declared.fault.Cause.{Cause}
use Rattle.supplier.specs.declared.fault.Cause.TheVariants.{TermSpent, OverDay, OverWindow}
use Rattle.supplier.specs.declared.fault.Fault.{Fault}
use Rattle.supplier.specs.declared.line.Line.{Line}
use Rattle.supplier.specs.Orders.{term, entered, due, Breaks, Fits, Before}

-- what a supplier promises and has taken: everything but the sheet
pub record Service : Type 0 where
  pub quote : ℕ
  pub limit : ℕ → ℕ
  pub days : ℕ
  pub book : List ℕ
  pub refusal : ℕ → Option Fault

-- the whole meaning, one value of six
pub record Meaning : Type 0 where
  pub service : Service
  pub sheet : List Line

-- the parts of a fault that do not depend on its finder's own pieces, by its cause
abbrev pub Caused : Service → ℕ → Fault → Cause → Type 0
Caused s q f TermSpent = (s.days ≡ term) × (f.window ≡ 0) × (f.bound ≡ term) × (f.sum ≡ s.days)
Caused s q f OverDay = (s.days < term) × (s.limit 1 < q) × (f.window ≡ 1)
Caused s q f OverWindow =
    (s.days < term) × (q ≤ s.limit 1) × Breaks s.limit s.book q × (2 ≤ f.window) × (f.window ≤ horizon)

-- the most layers that a fault counts: it stands for that many or more
abbrev pub most_layers : ℕ
most_layers = 1000

-- A refusal exists exactly when the term is spent or the order breaks a window.
abbrev pub Refused : Service → ℕ → Option Fault → Type 0
Refused s q None = (s.days < term) × Fits s.limit s.book q
Refused s q (Some f) = (f.day ≡ s.days + 1) × (f.layers ≤ most_layers) × Caused s q f f.cause

-- a service of which the limit, the days taken and their orders count alone
abbrev pub bare : (ℕ → ℕ) → ℕ → List ℕ → Service
bare limit days orders = record { quote = 0; limit = limit; days = days; book = orders; refusal = λ _. None }

-- The same of any list of orders.
abbrev pub CausedBy : (ℕ → ℕ) → ℕ → List ℕ → ℕ → Fault → Cause → Type 0
CausedBy limit days orders = Caused (bare limit days orders)

abbrev pub RefusedBy : (ℕ → ℕ) → ℕ → List ℕ → ℕ → Option Fault → Type 0
RefusedBy limit days orders = Refused (bare limit days orders)

-- what holds of every service
pub record Steady (s : Service) : Type 0 where
  pub near : s.quote ≤ horizon
  pub high : (k : ℕ) → 1 ≤ k → k ≤ horizon → s.limit k ≤ most
  pub grows : (k : ℕ) → 1 ≤ k → k < horizon → s.limit k ≤ s.limit (k + 1)
  pub until : s.days ≤ term
  pub long : length s.book ≡ horizon
  pub before : Before s.days s.book
  pub refusals : (q : ℕ) → Refused s q (s.refusal q)

-- the most lines of a sheet
abbrev pub most_lines : ℕ
most_lines = 1000

-- what holds of every meaning
pub record Sound (m : Meaning) : Type 0 where
  pub service : Steady m.service
  pub some : 1 ≤ length m.sheet
  pub few : length m.sheet ≤ most_lines

-- How a supplier's sheet follows from the orders up to the day, the newest first: none where that is not told.
abbrev pub Layout : Type 0
Layout = List ℕ → Option (List Line)

-- the layout of a supplier that does not tell it
abbrev pub untold : Layout
untold orders = None

-- a sheet as a layout tells it
abbrev pub Laid : Option (List Line) → List Line → Type 0
Laid None sheet = Unit {0}
Laid (Some lines) sheet = sheet ≡ lines

-- the order q is taken: it enters the book, the days rise by one, quote and limit stay
pub record Taken (before : Service) (q : ℕ) (after : Service) : Type 0 where
  pub quote : after.quote ≡ before.quote
  pub limit : after.limit ≡ before.limit
  pub days : after.days ≡ before.days + 1
  pub book : after.book ≡ entered q before.book

-- A day with the order q, by its answer: the order due, or a fault and nothing changed.
abbrev pub Day : Layout → Meaning → ℕ → Result ℕ Fault → Meaning → Type 0
Day layout before q (Ok delivered) after =
    (before.service.refusal q ≡ None) × (delivered ≡ due before.service.quote before.service.book q)
    × Taken before.service q after.service × Laid (layout (q ∷ before.service.book)) after.sheet
Day layout before q (Err fault) after = (before.service.refusal q ≡ Some fault) × (after ≡ before)
