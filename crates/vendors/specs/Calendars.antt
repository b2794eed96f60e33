-- What a calendar vendor means, and what its making gives.
use Rattle.std.specs.Prelude.{◌≡◌, ℕ, ◌+◌, ◌≤◌, List, [], ◌∷◌, None}
use Rattle.figures.specs.declared.ranges.Range.{Range}
use Rattle.figures.specs.Refusals.{Answered, NoLaw}
use Rattle.supplier.specs.declared.line.Kind.TheVariants as kind
use Rattle.supplier.specs.Orders.{no_orders}
use Rattle.supplier.specs.Meaning.{Meaning, Layout}
use Rattle.vendors.specs.declared.calendar.CalendarTerms.{CalendarTerms}
use Rattle.vendors.specs.declared.vendor.Vendor.{Vendor}
use Rattle.vendors.specs.Vended.{vended, vendor_layout}
use Rattle.supplier.specs.Numbers.{numbers, named}
use Rattle.vendors.specs.Periods.{weekly, most_travel, most_weekly}
use Rattle.vendors.specs.Departures.{longest, Leaves, Timely}
use Rattle.vendors.specs.Sources.{vendor_of}

abbrev pub Calendar : Type 0
Calendar =
    Vendor CalendarTerms (record { kind = λ t. kind.Calendar; quote = λ t. t.travel + longest t.mask.bits; limit = λ t. weekly t.weekly })

abbrev pub meaning_of : Calendar → Meaning
meaning_of c = vendor_of kind.Calendar (weekly c.terms.weekly) c.source

abbrev pub layout_of : Calendar → Layout
layout_of c = vendor_layout kind.Calendar c.source.ledger.number c.source.quote

-- the mask and the travel, which say when an order leaves and arrives
abbrev pub departure_figures : Calendar → ℕ × ℕ
departure_figures c = (c.terms.mask.bits, c.terms.travel)

-- when an order of day t leaves and arrives: by its quoted day
pub record Ships (c : Calendar) (t arrival : ℕ) : Type 0 where
  pub day : ℕ
  pub leaves : Leaves c.terms.mask.bits t day
  pub travels : arrival ≡ day + c.terms.travel
  pub timely : arrival ≤ t + (meaning_of c).service.quote

-- the ranges of number, mask, travel and weekly bound
abbrev pub calendar_ranges : List Range
calendar_ranges =
    numbers ∷ record { low = 1; high = 127 } ∷ record { low = 0; high = most_travel } ∷ record { low = 0; high = most_weekly } ∷ []

-- the question passes these figures
abbrev pub Passes : ℕ → ℕ → ℕ → ℕ → Type 0
Passes number mask travel bound = Answered calendar_ranges (number ∷ mask ∷ travel ∷ bound ∷ []) NoLaw None

-- a vendor with these figures and no day taken: its quote is the travel and the longest wait
pub record Opened (number mask travel bound : ℕ) (c : Calendar) : Type 0 where
  pub meant : meaning_of c ≡ vended kind.Calendar number (travel + longest mask) (weekly bound) 0 no_orders 0
  pub masked : departure_figures c ≡ (mask, travel)
  pub timely : Timely mask travel (meaning_of c).service.quote

-- what a making gives
pub record Made (number mask travel bound : ℕ) (c : Calendar) : Type 0 where
  pub kept : Passes number mask travel bound → Opened number mask travel bound c
  pub refused : (Passes number mask travel bound → ⊥) → Opened (named number) 127 0 0 c
