-- A refusal that is carried from below keeps the supplier's law.
use Rattle.std.specs.Prelude.{ℕ, ◌+◌, ◌≤◌, min, Some, None, Option}
use Rattle.std.proofs.Common.{arith}
use Rattle.supplier.specs.declared.fault.Cause.{Cause}
use Rattle.supplier.specs.declared.fault.Cause.TheVariants.{TermSpent, OverDay, OverWindow}
use Rattle.supplier.specs.declared.fault.Fault.{Fault}
use Rattle.supplier.specs.Meaning.{most_layers, Service, Refused, Caused}
use Rattle.layers.specs.Carrying.{carried, carries}
use Rattle.delays.specs.Delays.{delayed_service}

caused_carried : (delay : ℕ) (s : Service) (q : ℕ) (f : Fault) (cause : Cause) → Caused s q f cause → Caused (delayed_service delay s) q (carried f) cause
caused_carried delay s q f TermSpent c = c
caused_carried delay s q f OverDay c = c
caused_carried delay s q f OverWindow c = c

pub refused-carried : (delay : ℕ) (s : Service) (q : ℕ) (r : Option Fault) → Refused s q r → Refused (delayed_service delay s) q (carries r)
refused-carried delay s q None p = p
refused-carried delay s q (Some f) (day, layers, cause) = (day, (let m : min (f.layers + 1) most_layers ≤ most_layers = omega arith in m), caused_carried delay s q f f.cause cause)
