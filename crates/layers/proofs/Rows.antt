-- A row of days behind the orders below: what comes out of it, what is in it, and what a day does to it.
use Rattle.std.proofs.Common.{◌≡◌, ℕ, zero, suc, ◌+◌, ◌-◌, ◌<◌, ◌≤◌, List, ◌∷◌, get_or, take, drop, sym, ap, ◌∙◌, add-zero, arith}
use Rattle.std.proofs.lemmas.List.{get_or-take, get_or-drop}
use Rattle.figures.specs.Days.{horizon, most, total, window, span}
use Rattle.figures.proofs.Totals.{window_agree}
use Rattle.supplier.specs.Orders.{entered, due}

-- what comes out of a row of days behind what came in: the order of so many days before
pub arrives : (early j received q : ℕ) (row orders : List ℕ) → received ≡ due early orders q →
    ((i : ℕ) → i < j → get_or row i 0 ≡ get_or orders (early + i) 0) → get_or (received ∷ row) j 0 ≡ get_or (q ∷ orders) (early + j) 0
arrives early zero received q row orders e h = e ∙ ap (λ n. get_or (q ∷ orders) n 0) (sym (add-zero early))
arrives early (suc j) received q row orders e h =
    let n : early + suc j ≡ suc (early + j) = omega arith in
    h j (omega arith) ∙ ap (λ m. get_or (q ∷ orders) m 0) (sym n)

-- pieces in a row are the orders of the days from `early` on
pub in_row : (early d : ℕ) (row orders : List ℕ) → ((j : ℕ) → j < d → get_or row j 0 ≡ get_or orders (early + j) 0) →
    window d row ≡ span early (early + d) orders
in_row early d row orders h =
    let e : d ≡ (early + d) - early = omega arith in
    window_agree d row (drop early orders) (λ j l. h j l ∙ sym (get_or-drop early orders j 0)) ∙ ap (λ n. total (take n (drop early orders))) e

-- an order due is at most the most pieces where all orders are
pub due-small : (early q : ℕ) (book : List ℕ) → q ≤ most → ((j : ℕ) → get_or book j 0 ≤ most) → due early book q ≤ most
due-small zero q book l h = l
due-small (suc early) q book l h = h early

-- the row after a day
pub row_step : (early d received q : ℕ) (row orders : List ℕ) → early + d ≤ horizon → received ≡ due early orders q →
    ((j : ℕ) → j < d → get_or row j 0 ≡ get_or orders (early + j) 0) →
    (j : ℕ) → j < d → get_or (entered received row) j 0 ≡ get_or (entered q orders) (early + j) 0
row_step early d received q row orders near e h j l =
    get_or-take horizon (received ∷ row) j 0 (omega arith)
    ∙ arrives early j received q row orders e (λ i m. h i (omega arith))
    ∙ sym (get_or-take horizon (q ∷ orders) (early + j) 0 (omega arith))
