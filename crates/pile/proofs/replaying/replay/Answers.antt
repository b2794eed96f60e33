use Rattle.std.proofs.Common.{◌<◌, List, [], length, map, take, vec_items, sym, ap, ◌≡◌, ◌∙◌, subst, arith}
use Rattle.std.proofs.lemmas.List.{take_all, take_more}
use Rattle.pile.specs.declared.calls.Call.TheVariants.{Trial}
use Rattle.pile.specs.declared.calls.Event.{Event}
use Rattle.pile.specs.Events.{asked}
use Rattle.pile.specs.Steps.{state_of, terms_of}
use Rattle.pile.proofs.Showing.{shown, stands_new}
use Rattle.pile.proofs.Running.{Running, asked-push, running_more, running_all}
use Rattle.pile.proofs.Summits.{summits}
use Rattle.pile.proofs.replaying.replay.Goals as goal

pub loop-call-preserved : goal.loop-call-preserved
loop-call-preserved g c =
    let supplier = g.S.Supplier in
    let first = c.args.supplier.now in
    let a = c.loop-call.supplier in
    let b = c.answer.new.supplier in
    let t = terms_of supplier first in
    let inv = c.loop-call.invariant in
    let calls = c.args.calls.now in
    let i = c.loop-call.call-index in
    let l : i < length calls = omega arith in
    let did = c.answer.ensures in
    let pushed = c.in_ok-push.ensures in
    let es = vec_items c.loop-call.events in
    let e = c.answer.result in
    record {
      told = let x = pushed.len in let y = inv.told in omega arith;
      room = let x = pushed.capacity in let y = inv.room in omega arith;
      stays = λ v. did.stays (inv.stays v);
      lays = λ v. did.lays (inv.stays v) ∙ inv.lays v;
      running = λ v orders stands.
          let o = inv.stays v in
          let k = did.stays o in
          let r = inv.running v orders stands in
          let p = shown t _ (state_of supplier a) (state_of supplier b)
          r.stands (g.met.S.Supplier.sound a o) (g.met.S.Supplier.sound b k) (g.met.S.Supplier.shelved b k) (did.stocks o)
          (supplier.layout a) e (inv.lays v) (did.answered o) in
          let x = running_more t orders (state_of supplier first) _ (state_of supplier b) es e r p in
          subst (λ (xs : List Event). Running t orders (state_of supplier first) xs (state_of supplier b)) (sym pushed.items) x;
      asked = ap (map asked) pushed.items ∙ asked-push (take i calls) _ es e inv.asked did.call ∙ sym (take_more calls i (Trial 0) l);
    }

pub returns : goal.returns
returns g c =
    let supplier = g.S.Supplier in
    let a = c.args.supplier.now in
    let m = supplier.meaning a in
    let placed = supplier.shelves a in
    let t = terms_of supplier a in
    let s = state_of supplier a in
    let k = state_of supplier c.loop-call.supplier in
    let inv = c.loop-call.invariant in
    let calls = c.args.calls.now in
    let events = vec_items c.loop-call.events in
    let each : map asked events ≡ calls = inv.asked ∙ take_all c.loop-call.call-index calls (omega arith) in
    record {
      each = each;
      unmade = tt;
      stays = inv.stays;
      goes_on = λ v orders stands. running_all t orders s calls events k each (inv.running v orders stands);
      keeps = λ v n.
          let sound = g.met.S.Supplier.sound a v in
          let shelved = g.met.S.Supplier.shelved a v in
          let stands = stands_new m (supplier.layout a) placed sound shelved n in
          let run = running_all t [] s calls events k each (inv.running v [] stands) in
          record {
            starts = stands;
            run = run;
            top = summits m (supplier.layout a) placed (supplier.envelope a) calls events k sound shelved (g.met.S.Supplier.enveloped a v) run;
          };
    }
