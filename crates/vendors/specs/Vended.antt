-- What a vendor means: it finds every refusal itself, and delivers each order after its quote.
use Rattle.std.specs.Prelude.{ℕ, List, [], ◌∷◌, Some, slice_index}
use Rattle.figures.specs.Days.{window}
use Rattle.supplier.specs.declared.line.Kind.{Kind}
use Rattle.supplier.specs.declared.line.Line.{Line}
use Rattle.supplier.specs.Finders.{finder}
use Rattle.supplier.specs.Meaning.{Meaning, Layout}

-- a vendor's line: held are the orders of the last `quote` days, which are not delivered yet
abbrev pub vendor_line : Kind → ℕ → ℕ → List ℕ → ℕ → Line
vendor_line kind number quote orders delivered =
    record { number = number; kind = kind; order = slice_index orders 0; delivery = delivered; held = window quote orders }

-- a vendor of this kind, number, quote and limit, after these days and orders
abbrev pub vended : Kind → ℕ → ℕ → (ℕ → ℕ) → ℕ → List ℕ → ℕ → Meaning
vended kind number quote limit days book delivered = record {
  service = finder number quote limit days book;
  sheet = vendor_line kind number quote book delivered ∷ [];
}

-- how its sheet follows from the orders: it delivers the order of `quote` days before
abbrev pub vendor_layout : Kind → ℕ → ℕ → Layout
vendor_layout kind number quote orders = Some (vendor_line kind number quote orders (slice_index orders quote) ∷ [])
