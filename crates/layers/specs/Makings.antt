-- A layer as its making gives it.
use Rattle.std.specs.Prelude.{◌≡◌, ℕ}
use Rattle.supplier.specs.declared.line.Kind.{Kind}
use Rattle.layers.specs.declared.layer.Layer.{Layer}
use Rattle.layers.specs.declared.layer.Layer.TheVariants.{Working, Idle}
use Rattle.vendors.specs.Idles.{idle_meaning, idled}

-- idle, of this kind and number, with what was to lie below
abbrev pub Rests : {W B : Type 0} → Kind → ℕ → B → Layer W B → Type 0
Rests kind number below (Working w) = ⊥
Rests kind number below (Idle i b) = (idle_meaning i ≡ idled kind number) × (b ≡ below)

-- at work as told, or idle, of this kind and number, with what was to lie below: so whatever that is
abbrev pub Keeps : {W B : Type 0} → (W → Type 0) → Kind → ℕ → B → Layer W B → Type 0
Keeps Works kind number below (Working w) = Works w
Keeps Works kind number below (Idle i b) = (idle_meaning i ≡ idled kind number) × (b ≡ below)

-- at work where the question passes, and else idle, with what was to lie below
abbrev pub Given : {W B : Type 0} → Type 0 → (W → Type 0) → Kind → ℕ → B → Layer W B → Type 0
Given Passes Works kind number below (Working w) = Passes × Works w
Given Passes Works kind number below (Idle i b) = (Passes → ⊥) × (idle_meaning i ≡ idled kind number) × (b ≡ below)
