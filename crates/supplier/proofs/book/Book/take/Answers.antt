use Rattle.std.proofs.Common.{◌∷◌, take, sym, ap, ◌∙◌, subst, arith}
use Rattle.std.proofs.lemmas.Bool.{le-leb}
use Rattle.figures.specs.Days.{most}
use Rattle.supplier.specs.Books.{orders_of, BeforeNewest}
use Rattle.supplier.proofs.Rings.{unrolled-set}
use Rattle.supplier.proofs.book.Book.take.Goals as goal

pub returns : goal.returns
returns c =
    let s = c.args.self.now in
    let b = subst (λ n. BeforeNewest n s.newest c.before-place.result) (sym s.long) c.before-place.ensures.place in
    record {
      answer = sym (le-leb c.args.q most c.if-q-gt-MOST_PIECES.false);
      after = unrolled-set s.ring s.newest c.before-place.result c.args.q (omega arith) b
          ∙ ap (λ n. take n (c.args.q ∷ orders_of s)) s.long;
    }
