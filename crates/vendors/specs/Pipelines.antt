-- What a pipeline vendor means, and what its making gives.
use Rattle.std.specs.Prelude.{◌≡◌, ℕ, List, [], ◌∷◌, None}
use Rattle.figures.specs.declared.ranges.Range.{Range}
use Rattle.figures.specs.Days.{horizon}
use Rattle.figures.specs.Refusals.{Answered, NoLaw}
use Rattle.supplier.specs.declared.line.Kind.TheVariants as kind
use Rattle.supplier.specs.Orders.{no_orders}
use Rattle.supplier.specs.Meaning.{Meaning, Layout}
use Rattle.vendors.specs.declared.pipeline.PipelineTerms.{PipelineTerms}
use Rattle.vendors.specs.declared.vendor.Vendor.{Vendor}
use Rattle.vendors.specs.Vended.{vended, vendor_layout}
use Rattle.supplier.specs.Numbers.{numbers, named}
use Rattle.vendors.specs.Sources.{vendor_of}
use Rattle.vendors.specs.Periods.{daily, most_daily}

abbrev pub Pipeline : Type 0
Pipeline = Vendor PipelineTerms (record { kind = λ t. kind.Pipeline; quote = λ t. t.lead; limit = λ t. daily t.max })

abbrev pub meaning_of : Pipeline → Meaning
meaning_of p = vendor_of kind.Pipeline (daily p.terms.max) p.source

abbrev pub layout_of : Pipeline → Layout
layout_of p = vendor_layout kind.Pipeline p.source.ledger.number p.source.quote

-- the ranges of number, lead and most pieces of a day
abbrev pub pipeline_ranges : List Range
pipeline_ranges = numbers ∷ record { low = 0; high = horizon } ∷ record { low = 0; high = most_daily } ∷ []

-- the question passes these figures
abbrev pub Passes : ℕ → ℕ → ℕ → Type 0
Passes number lead max = Answered pipeline_ranges (number ∷ lead ∷ max ∷ []) NoLaw None

-- a vendor with these figures and no day taken
abbrev pub opened : ℕ → ℕ → ℕ → Pipeline → Type 0
opened number lead max p = meaning_of p ≡ vended kind.Pipeline number lead (daily max) 0 no_orders 0

-- what a making gives
pub record Made (number lead max : ℕ) (p : Pipeline) : Type 0 where
  pub kept : Passes number lead max → opened number lead max p
  pub refused : (Passes number lead max → ⊥) → opened (named number) 0 0 p
