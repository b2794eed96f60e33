-- The inside of a vendor: its line, and what a day does to it.
use Rattle.std.specs.Prelude.{◌≡◌, ℕ, Some, None, Ok, Err, Result}
use Rattle.supplier.specs.declared.fault.Fault.{Fault}
use Rattle.supplier.specs.declared.line.Kind.{Kind}
use Rattle.supplier.specs.declared.line.Line.{Line}
use Rattle.supplier.specs.Orders.{due}
use Rattle.supplier.specs.Books.{orders_of}
use Rattle.supplier.specs.Ledgers.{refusal_of, Entry}
use Rattle.vendors.specs.declared.source.Source.{Source}
use Rattle.supplier.specs.Meaning.{Meaning}
use Rattle.vendors.specs.Vended.{vendor_line, vended}

abbrev pub line_of : Kind → Source → Line
line_of kind s = vendor_line kind s.ledger.number s.quote (orders_of s.ledger.book) s.delivered

-- a vendor of this kind and limit with this inside
abbrev pub vendor_of : Kind → (ℕ → ℕ) → Source → Meaning
vendor_of kind limit s = vended kind s.ledger.number s.quote limit s.ledger.days (orders_of s.ledger.book) s.delivered

-- a day taken
pub record Delivered (s : Source) (q : ℕ) (d : ℕ) (t : Source) : Type 0 where
  pub free : refusal_of s.ledger q ≡ None
  pub due : d ≡ due s.quote (orders_of s.ledger.book) q
  pub entry : Entry s.ledger q t.ledger
  pub quote : t.quote ≡ s.quote
  pub last : t.delivered ≡ d

-- nothing changed
pub record Same (s t : Source) : Type 0 where
  pub ledger : t.ledger ≡ s.ledger
  pub quote : t.quote ≡ s.quote
  pub last : t.delivered ≡ s.delivered

-- a day: taken, or refused and nothing changed
abbrev pub Served : Source → ℕ → Result ℕ Fault → Source → Type 0
Served s q (Ok d) t = Delivered s q d t
Served s q (Err f) t = (refusal_of s.ledger q ≡ Some f) × Same s t
