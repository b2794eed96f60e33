-- The refusal that a supplier finds itself, with every figure of its fault.
use Rattle.std.specs.Prelude.{◌≡◌, ℕ, ◌+◌, ◌<◌, ◌≤◌, cond, List, ◌∷◌, Some, None, Option, ◌==◌}
use Rattle.std.specs.Option.{option_map}
use Rattle.figures.specs.Days.{horizon, window}
use Rattle.supplier.specs.declared.fault.Cause.{Cause}
use Rattle.supplier.specs.declared.fault.Cause.TheVariants.{TermSpent, OverDay, OverWindow}
use Rattle.supplier.specs.declared.fault.Fault.{Fault}
use Rattle.supplier.specs.Orders.{term, Fits}
use Rattle.supplier.specs.Meaning.{Service}
use Rattle.supplier.specs.declared.book.broken.Broken.{Broken}
use Rattle.supplier.specs.Windows.{Clear, first_broken}

-- a fault that its finder tells, carried by no layer
abbrev pub fault : Cause → ℕ → ℕ → ℕ → ℕ → ℕ → Fault
fault cause number day window bound sum =
    record { cause = cause; number = number; day = day; window = window; bound = bound; sum = sum; layers = 0 }

-- the fault of this day where this window is the first that its order breaks
abbrev pub over_on : ℕ → ℕ → Broken → Fault
over_on number day b = fault (cond (b.window == 1) OverDay OverWindow) number day b.window b.bound b.sum

-- the same after so many days
abbrev pub over : ℕ → ℕ → Broken → Fault
over number days b = over_on number (days + 1) b

-- what a finder with this number, these limits, days and orders answers to q
abbrev pub finds : ℕ → (ℕ → ℕ) → ℕ → List ℕ → ℕ → Option Fault
finds number limit days book q =
    cond (days == term) (Some (fault TermSpent number (days + 1) 0 term days))
    (option_map (over number days) (first_broken limit book q))

-- the service of a supplier that finds its refusals itself
abbrev pub finder : ℕ → ℕ → (ℕ → ℕ) → ℕ → List ℕ → Service
finder number quote limit days book =
    record { quote = quote; limit = limit; days = days; book = book; refusal = λ q. finds number limit days book q }

-- the same in plain words, by the cause told
abbrev pub Found : ℕ → (ℕ → ℕ) → ℕ → List ℕ → ℕ → Fault → Cause → Type 0
Found number limit days book q f TermSpent = (days ≡ term) × (f ≡ fault TermSpent number (days + 1) 0 term days)
Found number limit days book q f OverDay = (days < term) × (limit 1 < q) × (f ≡ fault OverDay number (days + 1) 1 (limit 1) q)
Found number limit days book q f OverWindow =
    (k : ℕ) × (days < term) × (2 ≤ k) × (k ≤ horizon) × (limit k < window k (q ∷ book))
    × Clear limit book q k
    × (f ≡ fault OverWindow number (days + 1) k (limit k) (window k (q ∷ book)))

-- none exactly where the term is not spent and no window is broken
abbrev pub Plain : ℕ → (ℕ → ℕ) → ℕ → List ℕ → ℕ → Option Fault → Type 0
Plain number limit days book q None = (days < term) × Fits limit book q
Plain number limit days book q (Some f) = Found number limit days book q f f.cause
