use Rattle.std.proofs.Common.{◌≡◌, ℕ, ◌+◌, ◌≤◌, List, ◌∷◌, get_or, Ok, unwrap_or, sym, ap, ◌∙◌, subst, rules}
use Rattle.std.specs.Option.{option_map}
use Rattle.figures.specs.Days.{horizon, most}
use Rattle.figures.proofs.Totals.{near_value, pushed-small}
use Rattle.supplier.specs.Orders.{due}
use Rattle.supplier.specs.Books.{orders_of}
use Rattle.supplier.specs.Meaning.{Day, Laid}
use Rattle.supplier.proofs.Books.{taken-book}
use Rattle.layers.specs.Carrying.{carries}
use Rattle.layers.specs.Sheets.{topped}
use Rattle.layers.proofs.Topped.{laid_topped, figures-later}
use Rattle.layers.proofs.Rows.{arrives, row_step, due-small}
use Rattle.delays.specs.Delays.{delay_line}
use Rattle.delays.proofs.Lateness.{taken-small, delay_line_step}
use Rattle.delays.proofs.delay.supplying.DelayingSupplier.day.Goals as goal

pub returns-in_err-received-clause-stocks : goal.returns-in_err-received-clause-stocks
returns-in_err-received-clause-stocks g c v =
    figures-later (g.S.Supplier.shelves c.day.new.self) ∙ c.day.ensures.stocks v.0 ∙ sym (figures-later (g.S.Supplier.shelves c.args.self.now.below))

pub returns-clause-stocks : goal.returns-clause-stocks
returns-clause-stocks g c v =
    figures-later (g.S.Supplier.shelves c.day.new.self) ∙ c.day.ensures.stocks v.0 ∙ sym (figures-later (g.S.Supplier.shelves c.args.self.now.below))

pub returns-clause-stays : goal.returns-clause-stays
returns-clause-stays g c w =
    let s = c.args.self.now in
    let own = s.own in
    let v = w.1 in
    let q = c.args.q in
    let m = g.S.Supplier.meaning s.below in
    let early = m.service.quote in
    let book = m.service.book in
    let row = orders_of own.received in
    let received = c.in_ok-received.received in
    let taken : c.day.result ≡ Ok received = search rules in
    let p = subst (λ r. Day (g.S.Supplier.layout s.below) m q r (g.S.Supplier.meaning c.day.new.self)) taken (c.day.ensures.answers w.0) in
    let k = p.2 in
    let steady = (g.met.S.Supplier.sound s.below w.0).service in
    let little = taken-small m.service q steady p.0 in
    let few : received ≤ most = subst (λ n. n ≤ most) (sym p.1) (due-small early q book little v.small) in
    let entry = taken-book received row (orders_of c.take.new.self) c.take.result c.take.ensures.answer c.take.ensures.after few in (
      c.day.ensures.stays w.0,
      record {
        near = subst (λ n. n + own.delay ≤ horizon) (sym k.quote) v.near;
        small = subst (λ (b : List ℕ). (j : ℕ) → get_or b j 0 ≤ most) (sym k.book) (pushed-small most horizon q book v.small little);
        coming = λ j l.
            ap (λ xs. get_or xs j 0) entry ∙ row_step early own.delay received q row book v.near p.1 v.coming j l
            ∙ (λ i. get_or (sym k.book i) (sym k.quote i + j) 0);
        last = ap (λ xs. get_or xs 0 0) (sym k.book);
      },
    )

pub returns-clause-answers : goal.returns-clause-answers
returns-clause-answers g c w =
    let s = c.args.self.now in
    let own = s.own in
    let v = w.1 in
    let q = c.args.q in
    let m = g.S.Supplier.meaning s.below in
    let after = g.S.Supplier.meaning c.day.new.self in
    let early = m.service.quote in
    let book = m.service.book in
    let row = orders_of own.received in
    let received = c.in_ok-received.received in
    let taken : c.day.result ≡ Ok received = search rules in
    let p = subst (λ r. Day (g.S.Supplier.layout s.below) m q r after) taken (c.day.ensures.answers w.0) in
    let k = p.2 in
    let e : c.unwrap_or-due.result ≡ due (early + own.delay) book q =
    c.unwrap_or-due.ensures ∙ ap (λ o. unwrap_or o 0) c.due.ensures ∙ near_value own.delay (due own.delay row received) own.brief
    ∙ arrives early own.delay received q row book p.1 v.coming in
    let line = delay_line own.number own.delay early (q ∷ book) (get_or (q ∷ book) (early + own.delay) 0) in
    let step = delay_line_step own.number own.delay early after.service.quote q c.unwrap_or-due.result book after.service.book v.near k.quote k.book e in (
      ap carries p.0,
      e,
      record { quote = ap (λ n. n + own.delay) k.quote; limit = k.limit; days = k.days; book = k.book },
      subst (λ l. Laid (option_map (topped line) (g.S.Supplier.layout s.below (q ∷ book))) (topped l after.sheet)) (sym step)
          (laid_topped line (g.S.Supplier.layout s.below (q ∷ book)) after.sheet p.3),
    )
