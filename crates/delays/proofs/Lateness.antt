-- The line of a delay over a day, and the orders of what lies below it.
use Rattle.std.proofs.Common.{◌≡◌, ℕ, ◌+◌, ◌<◌, ◌≤◌, List, ◌∷◌, get_or, None, ap, ◌∙◌, subst, arith}
use Rattle.figures.specs.Days.{horizon, most}
use Rattle.figures.proofs.Totals.{span_front}
use Rattle.supplier.specs.declared.line.Kind.TheVariants as kind
use Rattle.supplier.specs.Orders.{term, entered, Fits}
use Rattle.supplier.specs.Meaning.{Service, Steady, Refused}
use Rattle.delays.specs.Delays.{delay_line}

-- an order that is taken is at most the most pieces
pub taken-small : (s : Service) (q : ℕ) → Steady s → s.refusal q ≡ None → q ≤ most
taken-small s q steady free =
    let r : (s.days < term) × Fits s.limit s.book q = subst (Refused s q) free (steady.refusals q) in
    let f : q + 0 ≤ s.limit 1 = r.1 1 (omega arith) (omega arith) in
    let h = steady.high 1 (omega arith) (omega arith) in
    omega arith

-- a delay's line after a day, from the orders up to the day
pub delay_line_step : (number delay early early' q delivered : ℕ) (book book' : List ℕ) → early + delay ≤ horizon → early' ≡ early →
    book' ≡ entered q book → delivered ≡ get_or (q ∷ book) (early + delay) 0 →
    delay_line number delay early' book' delivered ≡ delay_line number delay early (q ∷ book) (get_or (q ∷ book) (early + delay) 0)
delay_line_step number delay early early' q delivered book book' near a b e =
    (λ i. delay_line number delay (a i) (b i) (e i))
    ∙ ap (λ h. record { number = number; kind = kind.Delay; order = q; delivery = get_or (q ∷ book) (early + delay) 0; held = h })
    (span_front horizon early (early + delay) (q ∷ book) (omega arith) near)

-- the orders of a supplier that has taken no day
pub new_book : (s : Service) → Steady s → s.days ≡ 0 → (j : ℕ) → get_or s.book j 0 ≡ 0
new_book s steady new j = steady.before j (omega arith)
