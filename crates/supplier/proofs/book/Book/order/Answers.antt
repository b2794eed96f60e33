use Rattle.std.proofs.Common.{◌+◌, ◌-◌, get_or, sym, ap, ◌∙◌, arith}
use Rattle.std.proofs.lemmas.List.{get_or_past}
use Rattle.supplier.specs.Books.{orders_of}
use Rattle.supplier.proofs.Books.{orders-long}
use Rattle.supplier.proofs.Rings.{unrolled-near, unrolled-round}
use Rattle.supplier.proofs.book.Book.order.Goals as goal

pub returns-then-place-lt-HORIZON : goal.returns-then-place-lt-HORIZON
returns-then-place-lt-HORIZON c =
    let s = c.args.self.now in
    record { order = sym (unrolled-near s.ring s.newest (omega arith) c.args.back (omega arith)); small = s.small _ }

pub returns-else-place-lt-HORIZON : goal.returns-else-place-lt-HORIZON
returns-else-place-lt-HORIZON c =
    let s = c.args.self.now in
    record {
      order = sym (unrolled-round s.ring s.newest (omega arith) c.args.back (omega arith) (omega arith)
          ∙ ap (λ n. get_or s.ring ((s.newest + c.args.back) - n) 0) s.long);
      small = s.small _;
    }

pub returns-then-back-ge-HORIZON : goal.returns-then-back-ge-HORIZON
returns-then-back-ge-HORIZON c =
    let s = c.args.self.now in
    let l = orders-long s in
    record { order = sym (get_or_past (orders_of s) c.args.back 0 (omega arith)); small = omega arith }
