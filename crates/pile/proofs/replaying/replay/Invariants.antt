use Rattle.std.proofs.Common.{◌≡◌, ℕ, ◌≤◌, List, length, map, take, vec_items, vec_len, vec_capacity}
use Rattle.pile.specs.Events.{asked}
use Rattle.pile.specs.Runs.{Stands}
use Rattle.pile.specs.Steps.{state_of, terms_of}
use Rattle.pile.proofs.Running.{Running}
use Rattle.pile.proofs.replaying.replay.Given as goal

abbrev pub invariant-loop-call : goal.invariant-loop-call
invariant-loop-call g l =
    let supplier = g.S.Supplier in
    record {
      told : vec_len l.events ≡ l.call-index;
      room : length l.calls ≤ vec_capacity l.events;
      stays : supplier.valid l.initial.supplier → supplier.valid l.supplier;
      lays : supplier.valid l.initial.supplier → supplier.layout l.supplier ≡ supplier.layout l.initial.supplier;
      running : supplier.valid l.initial.supplier → (orders : List ℕ) →
          Stands (terms_of supplier l.initial.supplier) orders (state_of supplier l.initial.supplier) →
          Running (terms_of supplier l.initial.supplier) orders (state_of supplier l.initial.supplier) (vec_items l.events) (state_of supplier l.supplier);
      asked : map asked (vec_items l.events) ≡ take l.call-index l.calls;
    }
