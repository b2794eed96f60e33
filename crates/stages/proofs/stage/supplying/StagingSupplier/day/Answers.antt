use Rattle.std.proofs.Common.{◌≡◌, ◌+◌, ◌∷◌, get_or, sym, refl, ap, ◌∙◌, subst, rules}
use Rattle.std.specs.Option.{option_map}
use Rattle.figures.specs.Days.{for_days}
use Rattle.supplier.specs.Orders.{due}
use Rattle.supplier.specs.Books.{orders_of}
use Rattle.supplier.specs.Meaning.{Laid}
use Rattle.supplier.proofs.Books.{orders-small}
use Rattle.layers.specs.Sheets.{topped}
use Rattle.layers.proofs.Topped.{laid_topped, figures-later}
use Rattle.stages.specs.Stages.{Tied, book_of, stage_line, stage_layout}
use Rattle.stages.proofs.Tying.{freed, tied_step, stage_line_step}
use Rattle.stages.proofs.stage.supplying.StagingSupplier.day.Goals as goal

pub returns : goal.returns
returns g c =
    let s = c.args.self.now in
    let own = s.own in
    let l = own.ledger in
    let q = c.args.q in
    let m = g.S.Supplier.meaning s.below in
    let after = g.S.Supplier.meaning c.send-received.new.below in
    let own' = c.restock.new.self in
    let entry = c.in_ok-take.ensures in
    let rs = c.restock.ensures in
    let did = c.send-received.ensures in
    let sent = λ (v : g.S.Supplier.valid s.below × Tied m own). freed m own q (g.met.S.Supplier.sound s.below v.0).service v.1 entry.0 in
    let took = λ (v : g.S.Supplier.valid s.below × Tied m own). did.taken v.0 (sent v).free in
    let e : c.unwrap_or-due.result ≡ due own.quote (book_of own) q = search rules in
    let number = ap (λ x. x.number) rs.ledger ∙ entry.1.number in
    let book = ap (λ x. orders_of x.book) rs.ledger ∙ entry.1.book in
    record {
      stays = λ v.
          let f = sent v in
          let k = took v in
          let r = k.0 ∙ ap (λ b. due m.service.quote b q) (sym v.1.same) in (
            did.stays v.0,
            tied_step m after own _ own' q c.send-received.result c.unwrap_or-due.result
                v.1 k.1 entry.1 refl refl refl refl refl rs r e f.fits f.little (orders-small l.book),
          );
      answers = λ v.
          let k = took v in
          let from = m.service.quote + own.process in
          let line = stage_line l.number own.base own.quote from (q ∷ book_of own) (get_or (q ∷ book_of own) own.quote 0) in
          let step = stage_line_step l.number own'.ledger.number own.base own'.base own.quote own'.quote from (after.service.quote + own'.process) q own'.delivered
          (book_of own) (book_of own') v.1.early v.1.within number rs.base rs.quote (λ i. k.1.quote i + rs.process i) book (rs.delivered ∙ e) in
          let laid = subst (λ b. Laid (g.S.Supplier.layout s.below (q ∷ b)) after.sheet) (sym v.1.same) k.2 in (
            entry.0,
            e,
            record { quote = rs.quote; limit = ap for_days (ap (λ x. x.limits.bounds) rs.ledger ∙ entry.1.bounds); days = ap (λ x. x.days) rs.ledger ∙ entry.1.days; book = book },
            subst (λ x. Laid (option_map (topped line) (g.S.Supplier.layout s.below (q ∷ book_of own))) (topped x after.sheet)) (sym step)
                (laid_topped line (g.S.Supplier.layout s.below (q ∷ book_of own)) after.sheet laid),
          );
      lays = λ v.
          let k = took v in
          λ i. stage_layout (number i) (rs.base i) (rs.quote i) (k.1.quote i + rs.process i) (did.lays v.0 i);
      stocks = λ v.
          let k = took v in
          let rest = figures-later (g.S.Supplier.shelves c.send-received.new.below) ∙ did.stocks v.0 ∙ sym (figures-later (g.S.Supplier.shelves s.below)) in
          λ i. record { base = rs.base i; upto = rs.quote i; from = k.1.quote i + rs.process i; pieces = 1 } ∷ rest i;
    }
