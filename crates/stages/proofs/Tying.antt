-- A stage is never refused below, and its shelf steps from day to day as the closed form says.
use Rattle.std.proofs.Common.{◌≡◌, ℕ, zero, suc, ◌+◌, ◌-◌, ◌<◌, ◌≤◌, List, ◌∷◌, get_or, take, drop, None, sym, ap, ◌∙◌, subst, zero-le, arith}
use Rattle.figures.specs.Days.{horizon, most, for_days, total, span, pushed}
use Rattle.figures.proofs.Totals.{part_of_front, window_front, span_front, span-pushed}
use Rattle.supplier.specs.declared.line.Kind.TheVariants as kind
use Rattle.supplier.specs.Orders.{term, entered, due, Fits, FitsWithin}
use Rattle.supplier.specs.Books.{orders_of}
use Rattle.supplier.specs.Finders.{finds, Plain}
use Rattle.supplier.specs.Ledgers.{Entry}
use Rattle.supplier.specs.Meaning.{Service, Meaning, Steady, Taken}
use Rattle.supplier.proofs.Finders.{finds_plain}
use Rattle.supplier.proofs.Services.{free-taken}
use Rattle.layers.proofs.Rows.{arrives, row_step, due-small}
use Rattle.stages.specs.declared.stock.Stock.{Stock}
use Rattle.stages.specs.Stages.{Tied, WithinBounds, book_of, bound_of, stage_line}
use Rattle.stages.specs.Stocks.{Restocked}

-- an order that keeps the windows of a smaller limit is not refused
pub never_refused : (s : Service) (bound : ℕ → ℕ) (q : ℕ) → Steady s → ((k : ℕ) → 1 ≤ k → k ≤ horizon → bound k ≤ s.limit k) →
    s.days < term → Fits bound s.book q → s.refusal q ≡ None
never_refused s bound q steady under l fits =
    free-taken s.limit s.days s.book q (s.refusal q) l (λ k a b. let x = fits k a b in let y = under k a b in omega arith) (steady.refusals q)

-- what it shows that a stage takes an order: it is not refused below either
pub record Freed (m : Meaning) (own : Stock) (q : ℕ) : Type 0 where
  pub free : m.service.refusal q ≡ None
  pub fits : Fits (bound_of own) (book_of own) q
  pub little : q ≤ most

pub freed : (m : Meaning) (own : Stock) (q : ℕ) → Steady m.service → Tied m own →
    finds own.ledger.number (bound_of own) own.ledger.days (book_of own) q ≡ None → Freed m own q
freed m own q steady v e =
    let l = own.ledger in
    let plain : (l.days < term) × Fits (bound_of own) (book_of own) q =
    subst (Plain l.number (bound_of own) l.days (book_of own) q) e (finds_plain l.number (bound_of own) l.days (book_of own) q l.until) in
    record {
      free = never_refused m.service (bound_of own) q steady v.under (let d = v.together in omega (arith, plain.0)) (subst (λ b. Fits (bound_of own) b q) v.same plain.1);
      fits = plain.1;
      little = let a : q + 0 ≤ bound_of own 1 = plain.1 1 (omega arith) (omega arith) in let h = l.limits.high 0 in omega arith;
    }

-- every stretch of orders stays within its bound
pub within-pushed : (n : ℕ) (bound : ℕ → ℕ) (book : List ℕ) (q : ℕ) → WithinBounds n bound book → FitsWithin n bound book q → WithinBounds n bound (pushed n q book)
within-pushed n bound book q w f j zero h = zero-le
within-pushed n bound book q w f zero (suc k) h =
    subst (λ x. x ≤ bound (suc k)) (sym (window_front (suc k) n (q ∷ book) (omega arith))) (f (suc k) (omega arith) (omega arith))
within-pushed n bound book q w f (suc j) (suc k) h =
    subst (λ xs. total xs ≤ bound (suc k)) (sym (part_of_front (suc j) (suc k) n (q ∷ book) h)) (w j (suc k) (omega arith))

-- a stage's line after a day, from the orders up to the day
pub stage_line_step : (number number' base base' quote quote' from from' q delivered : ℕ) (book book' : List ℕ) → quote ≤ from → from ≤ horizon →
    number' ≡ number → base' ≡ base → quote' ≡ quote → from' ≡ from → book' ≡ entered q book → delivered ≡ get_or (q ∷ book) quote 0 →
    stage_line number' base' quote' from' book' delivered ≡ stage_line number base quote from (q ∷ book) (get_or (q ∷ book) quote 0)
stage_line_step number number' base base' quote quote' from from' q delivered book book' early near a b c d e f =
    (λ i. stage_line (a i) (b i) (c i) (d i) (e i) (f i))
    ∙ ap (λ h. record { number = number; kind = kind.Stage; order = q; delivery = get_or (q ∷ book) quote 0; held = base - h })
    (span_front horizon quote from (q ∷ book) early near)

module _
    (m m' : Meaning) (own mid own' : Stock) (q received delivery : ℕ)
    (t : Tied m own) (k : Taken m.service q m'.service) (entry : Entry own.ledger q mid.ledger)
    (process : mid.process ≡ own.process) (quote : mid.quote ≡ own.quote) (base : mid.base ≡ own.base) (shelf : mid.shelf ≡ own.shelf)
    (works : orders_of mid.works ≡ orders_of own.works)
    (s : Restocked mid received delivery own')
    (r : received ≡ due m.service.quote (book_of own) q) (d : delivery ≡ due own.quote (book_of own) q)
    (fits : Fits (bound_of own) (book_of own) q) (little : q ≤ most) (few : (j : ℕ) → get_or (book_of own) j 0 ≤ most)
  where
    bounds-kept : own'.ledger.limits.bounds ≡ own.ledger.limits.bounds
    bounds-kept = ap (λ l. l.limits.bounds) s.ledger ∙ entry.bounds

    bound-kept : (i : ℕ) → bound_of own' i ≡ bound_of own i
    bound-kept i = ap (λ b. for_days b i) bounds-kept

    book-entered : book_of own' ≡ entered q (book_of own)
    book-entered = ap (λ l. orders_of l.book) s.ledger ∙ entry.book

    from-kept : m'.service.quote + own'.process ≡ m.service.quote + own.process
    from-kept = let a = k.quote in let b = s.process in omega arith

    still_within : WithinBounds horizon (bound_of own) (entered q (book_of own))
    still_within = within-pushed horizon (bound_of own) (book_of own) q t.bounded fits

    received-small : received ≤ most
    received-small = subst (λ n. n ≤ most) (sym r) (due-small m.service.quote q (book_of own) little few)

    -- what is finished reaches the shelf before the delivery leaves it
    shelf-steps : own'.shelf + span own.quote (m.service.quote + own.process) (entered q (book_of own)) ≡ own.base
    shelf-steps =
        let from = m.service.quote + own.process in
        let row = orders_of own.works in
        let f : due mid.process (orders_of mid.works) received ≡ due from (book_of own) q =
        (λ i. due (process i) (works i) received) ∙ arrives m.service.quote own.process received q row (book_of own) r t.coming in
        let p = span-pushed horizon own.quote from q (book_of own) t.early t.within in
        let u = still_within own.quote (from - own.quote) (let a = t.early in let b = t.within in omega arith) in
        let room = t.room in
        let stock = t.stock in
        let small = own.small in
        let x = due-small from q (book_of own) little few in
        let e = s.shelf in
        omega arith

    pub tied_step : Tied m' own'
    tied_step =
        let qu : own'.quote ≡ own.quote = s.quote ∙ quote in
        let pr : own'.process ≡ own.process = s.process ∙ process in
        let ba : own'.base ≡ own.base = s.base ∙ base in
        record {
          same = book-entered ∙ ap (entered q) t.same ∙ sym k.book;
          together = ap (λ l. l.days) s.ledger ∙ entry.days ∙ ap (λ n. n + 1) t.together ∙ sym k.days;
          early = let a = t.early in let b = from-kept in omega arith;
          within = let a = t.within in let b = from-kept in omega arith;
          under = λ i a b.
              let x = bound-kept i in
              let y = ap (λ (f : ℕ → ℕ). f i) k.limit in
              let z = t.under i a b in
              omega arith;
          room =
              let e : (m'.service.quote + own'.process) - own'.quote ≡ (m.service.quote + own.process) - own.quote = let b = from-kept in omega arith in
              let x = ap (bound_of own') e ∙ bound-kept ((m.service.quote + own.process) - own.quote) in
              let z = t.room in
              omega arith;
          bounded = λ j n h.
              let a = still_within j n h in
              let b = ap (λ xs. total (take n (drop j xs))) book-entered in
              let x = bound-kept n in
              omega arith;
          stock =
              let e : span own'.quote (m'.service.quote + own'.process) (book_of own') ≡ span own.quote (m.service.quote + own.process) (entered q (book_of own)) =
              (λ i. span (qu i) (from-kept i) (book-entered i)) in
              let x = shelf-steps in
              omega arith;
          coming = λ j l.
              let w = s.works received-small ∙ ap (entered received) works in
              ap (λ xs. get_or xs j 0) w
              ∙ row_step m.service.quote own.process received q (orders_of own.works) (book_of own) t.within r t.coming j (omega arith)
              ∙ (λ i. get_or (sym book-entered i) (sym k.quote i + j) 0);
        }
