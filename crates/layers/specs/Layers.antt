-- A layer by what it is: at work, or idle.
use Rattle.vendors.specs.Idles.{Idle as Resting}
use Rattle.layers.specs.declared.layer.Layer.{Layer}
use Rattle.layers.specs.declared.layer.Layer.TheVariants.{Working, Idle}

abbrev pub by_layer {ℓ} : {W B : Type 0} {X : Type ℓ} → (W → X) → (Resting → X) → Layer W B → X
by_layer working resting (Working w) = working w
by_layer working resting (Idle i b) = resting i
