-- What an order does to a book of orders.
use Rattle.std.proofs.Common.{◌≡◌, ℕ, zero, suc, ◌+◌, ◌-◌, ◌<◌, ◌≤◌, Bool, cond, leb, List, ◌∷◌, length, get_or, sym, ◌∙◌, ⊎_elim, arith}
use Rattle.std.proofs.lemmas.List.{ext_get_or, get_or_past}
use Rattle.std.proofs.lemmas.Bool.{le-leb, cond-true, cases_lt}
use Rattle.figures.specs.Days.{horizon, most}
use Rattle.figures.proofs.Totals.{front_zero, zeros_get}
use Rattle.supplier.specs.declared.book.Book.{Book}
use Rattle.supplier.specs.Books.{orders_of}
use Rattle.supplier.proofs.Rings.{unrolled-length, unrolled-near, unrolled-round}
use Rattle.supplier.specs.Orders.{entered, no_orders, Before}

pub before-entered : (days : ℕ) (book : List ℕ) (q : ℕ) → Before days book → Before (days + 1) (entered q book)
before-entered days book q b zero h = absurd (omega arith)
before-entered days book q b (suc j) h = front_zero horizon (q ∷ book) (suc j) (b j (omega arith))

-- a book with no day taken
pub fresh : (days : ℕ) (book : List ℕ) → Before days book → days ≡ 0 → length book ≡ horizon → book ≡ no_orders
fresh days book b n long = ext_get_or 0 book (no_orders) long (λ i h. b i (omega arith) ∙ sym (zeros_get horizon i))

-- an order of at most the most pieces is taken
pub taken-book : (q : ℕ) (old after : List ℕ) (taken : Bool) → taken ≡ leb q most → after ≡ cond taken (entered q old) old → q ≤ most → after ≡ entered q old
taken-book q old after taken a b h = b ∙ cond-true taken (entered q old) old (a ∙ le-leb q most h)

pub orders-long : (b : Book) → length (orders_of b) ≡ horizon
orders-long b = unrolled-length b.ring b.newest (let l = b.long in let i = b.inside in omega arith) ∙ b.long

-- every order of a book is at most the most pieces
pub orders-small : (b : Book) (j : ℕ) → get_or (orders_of b) j 0 ≤ most
orders-small b j =
    let l = b.long in
    let i : b.newest < length b.ring = let n = b.inside in omega arith in
    ⊎_elim
    (λ (h : j < length b.ring).
    ⊎_elim
    (λ (n : b.newest + j < length b.ring). let e = unrolled-near b.ring b.newest i j n in let s = b.small (b.newest + j) in omega arith)
    (λ (n : length b.ring ≤ b.newest + j). let e = unrolled-round b.ring b.newest i j n h in let s = b.small ((b.newest + j) - length b.ring) in omega arith)
    (cases_lt (b.newest + j) (length b.ring)))
    (λ (h : length b.ring ≤ j). let z = get_or_past (orders_of b) j 0 (let n = orders-long b in omega arith) in omega arith)
    (cases_lt j (length b.ring))
