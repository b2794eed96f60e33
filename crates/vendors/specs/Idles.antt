-- What an idle layer means: quote 0, limit 0, and one line that holds nothing.
use Rattle.std.specs.Prelude.{ℕ}
use Rattle.supplier.specs.declared.line.Kind.{Kind}
use Rattle.supplier.specs.Orders.{no_orders}
use Rattle.supplier.specs.Meaning.{Meaning, Layout}
use Rattle.vendors.specs.declared.idle.IdleTerms.{IdleTerms}
use Rattle.vendors.specs.declared.vendor.Vendor.{Vendor}
use Rattle.vendors.specs.Vended.{vended, vendor_layout}
use Rattle.vendors.specs.Sources.{vendor_of}
use Rattle.vendors.specs.Periods.{Tells, nothing}

abbrev pub Idle : Type 0
Idle = Vendor IdleTerms (record { kind = λ t. t.kind; quote = λ t. 0; limit = λ t. nothing })

abbrev pub idle_meaning : Idle → Meaning
idle_meaning i = vendor_of i.terms.kind nothing i.source

abbrev pub idle_layout : Idle → Layout
idle_layout i = vendor_layout i.terms.kind i.source.ledger.number i.source.quote

-- an idle layer of this kind and number with no day taken
abbrev pub idled : Kind → ℕ → Meaning
idled kind number = vended kind number 0 nothing 0 no_orders 0

-- its table holds nothing
pub shut_table : (i : Idle) → Tells nothing i.source.ledger.limits.bounds
shut_table i = i.tells
