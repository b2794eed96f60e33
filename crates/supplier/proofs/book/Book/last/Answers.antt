use Rattle.std.proofs.Common.{get_or, sym, ap, ◌∙◌, add-zero, arith}
use Rattle.supplier.proofs.Rings.{unrolled-near}
use Rattle.supplier.proofs.book.Book.last.Goals as goal

pub returns : goal.returns
returns c =
    let s = c.args.self.now in
    let l = s.long in
    let i = s.inside in
    sym (unrolled-near s.ring s.newest (omega arith) 0 (omega arith) ∙ ap (λ n. get_or s.ring n 0) (add-zero s.newest))
