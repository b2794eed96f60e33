use Rattle.std.proofs.Common.{◌≡◌, ℕ, ◌+◌, ◌≤◌, sym, ap, subst, ◌∙◌, arith, [], ◌∷◌}
use Rattle.figures.specs.Refusals.{NoLaw}
use Rattle.figures.proofs.Answered.{never_both}
use Rattle.supplier.specs.declared.line.Kind.TheVariants as kind
use Rattle.supplier.specs.Orders.{no_orders}
use Rattle.supplier.proofs.Naming.{named-kept}
use Rattle.vendors.specs.Calendars.{Calendar, calendar_ranges, Opened, meaning_of, departure_figures}
use Rattle.vendors.specs.Departures.{longest, Timely}
use Rattle.vendors.specs.Periods.{weekly}
use Rattle.vendors.specs.Vended.{vended}
use Rattle.vendors.proofs.Weeks.{timely}
use Rattle.vendors.proofs.calendar.making.Vendor+CalendarTerms.new.Goals as goal

-- a vendor of this mask and travel is timely
shipping : (number mask travel bound : ℕ) (c : Calendar) → 1 ≤ mask → mask ≤ 127 →
    meaning_of c ≡ vended kind.Calendar number (travel + longest mask) (weekly bound) 0 no_orders 0 →
    departure_figures c ≡ (mask, travel) → Opened number mask travel bound c
shipping number mask travel bound c some days meant masked = record {
  meant = meant;
  masked = masked;
  timely = subst (Timely mask travel) (sym (ap (λ m. m.service.quote) meant)) (timely mask travel some days);
}

pub returns-in-None : goal.returns-in-None
returns-in-None c =
    let p = c.in-None.ensures in
    let a = c.args in
    let m = p.0 1 (omega arith) (omega arith) in
    let n = c.kept_number.ensures ∙ named-kept a.number (p.0 0 (omega arith) (omega arith)) in
    let e = c.opened.ensures in
    record {
      kept = λ _. subst (λ n. Opened n a.mask a.travel a.weekly c.opened.result) n
          (shipping c.kept_number.result a.mask a.travel a.weekly c.opened.result m.0 m.1 e.meant (ap (λ t. (t.mask.bits, t.travel)) e.kept));
      refused = λ no. absurd (no p);
    }

pub returns-in-Some : goal.returns-in-Some
returns-in-Some c =
    let a = c.args in
    let n = c.kept_number-in-Some.result in
    let e = c.opened-in-Some.ensures in
    let opened = shipping n 127 0 0 c.opened-in-Some.result (omega arith) (omega arith) e.meant (ap (λ t. (t.mask.bits, t.travel)) e.kept) in
    record { kept = λ p. absurd (never_both calendar_ranges (a.number ∷ a.mask ∷ a.travel ∷ a.weekly ∷ []) NoLaw c.in-Some.field-0 c.in-Some.ensures p); refused = λ no. subst (λ n. Opened n 127 0 0 c.opened-in-Some.result) c.kept_number-in-Some.ensures opened }
