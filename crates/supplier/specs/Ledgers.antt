-- What a ledger answers, and what a day does to it.
use Rattle.std.specs.Prelude.{◌≡◌, ℕ, ◌+◌, Some, None, Ok, Err, Option, Result}
use Rattle.figures.specs.Days.{for_days}
use Rattle.supplier.specs.declared.fault.Fault.{Fault}
use Rattle.supplier.specs.declared.ledger.Ledger.{Ledger}
use Rattle.supplier.specs.declared.limits.Limits.{Limits}
use Rattle.supplier.specs.Orders.{entered, no_orders}
use Rattle.supplier.specs.Books.{orders_of}
use Rattle.supplier.specs.Finders.{finds, Plain}

-- a ledger with no day taken
pub record Opened (number : ℕ) (limits : Limits) (l : Ledger) : Type 0 where
  pub numbered : l.number ≡ number
  pub limited : l.limits.bounds ≡ limits.bounds
  pub unused : l.days ≡ 0
  pub empty : orders_of l.book ≡ no_orders

abbrev pub refusal_of : Ledger → ℕ → Option Fault
refusal_of l q = finds l.number (for_days l.limits.bounds) l.days (orders_of l.book) q

abbrev pub RefusedPlainly : Ledger → ℕ → Option Fault → Type 0
RefusedPlainly l q r = Plain l.number (for_days l.limits.bounds) l.days (orders_of l.book) q r

-- what a day taken keeps of a ledger, and what it changes
pub record Entry (l : Ledger) (q : ℕ) (m : Ledger) : Type 0 where
  pub number : m.number ≡ l.number
  pub bounds : m.limits.bounds ≡ l.limits.bounds
  pub days : m.days ≡ l.days + 1
  pub book : orders_of m.book ≡ entered q (orders_of l.book)

-- a day with the order q: taken, or refused and nothing changed
abbrev pub Entered : Ledger → ℕ → Result (Prim.Unit {0}) Fault → Ledger → Type 0
Entered l q (Ok x) m = (refusal_of l q ≡ None) × Entry l q m
Entered l q (Err f) m = (refusal_of l q ≡ Some f) × (m ≡ l)
