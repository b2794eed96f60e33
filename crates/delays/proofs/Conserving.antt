-- What a delay has received is what it has handed on and what is in transit.
use Rattle.std.proofs.Common.{◌≡◌, ℕ, ◌+◌, arith}
use Rattle.figures.specs.Days.{window}
use Rattle.supplier.specs.Books.{orders_of}
use Rattle.supplier.specs.Meaning.{Meaning}
use Rattle.layers.proofs.Rows.{in_row}
use Rattle.layers.proofs.Conserving.{between}
use Rattle.delays.specs.declared.transit.Transit.{Transit}
use Rattle.delays.specs.Delays.{Late}
use Rattle.delays.specs.Conservation.{DelayConserves}

pub delay_conserves : (m : Meaning) (own : Transit) (transit : ℕ) → transit ≡ window own.delay (orders_of own.received) →
    Late m own → DelayConserves m own.delay transit
delay_conserves m own transit e v orders b =
    let x = between m.service.quote (m.service.quote + own.delay) m.service.book orders b (omega arith) v.near in
    let y = in_row m.service.quote own.delay (orders_of own.received) m.service.book v.coming in
    omega arith
