-- A stage that passes its question is tied to what lies below from the start.
use Rattle.std.proofs.Common.{◌≡◌, ℕ, ◌+◌, ◌-◌, List, get_or, take, drop, sym, ap, ◌∙◌, arith}
use Rattle.figures.specs.Days.{horizon, for_days, total, span}
use Rattle.figures.specs.Joins.{Joins}
use Rattle.figures.proofs.Totals.{zeros_get, zeros_total}
use Rattle.supplier.specs.Orders.{no_orders}
use Rattle.supplier.specs.Meaning.{Meaning, Sound}
use Rattle.supplier.proofs.Books.{fresh}
use Rattle.stages.specs.declared.stock.Stock.{Stock}
use Rattle.stages.specs.Stages.{Tied, book_of, bound_of}
use Rattle.stages.specs.StageMaking.{Copies, StagePasses, Stocked}

-- a table that tells an envelope's bound keeps its law
pub joins_copied : (bound : ℕ → ℕ) (table : List ℕ) → Copies bound table → Joins bound → Joins (for_days table)
joins_copied bound table copy joins i j h =
    let x = copy i (omega arith) in
    let y = copy j (omega arith) in
    let w = copy (i + j) h in
    let z = joins i j h in
    omega arith

pub tied_new : (m : Meaning) (bound : ℕ → ℕ) (number process quote base : ℕ) (table : List ℕ) (own : Stock) → Sound m →
    StagePasses m bound number process quote base → Copies bound table → Stocked number table process quote base own → Tied m own
tied_new m bound number process quote base table own sound (ranges, unused, (within, early), under, room) copy e =
    let none = fresh m.service.days m.service.book sound.service.before unused sound.service.long in
    let from : m.service.quote + own.process ≡ m.service.quote + process = ap (λ n. m.service.quote + n) e.time in
    let qu = e.quoted in
    record {
      same = e.orders ∙ sym none;
      together = e.unused ∙ sym unused;
      early = omega arith;
      within = omega arith;
      under = λ k a b.
          let x = ap (λ t. for_days t k) e.bounds in
          let y = copy k b in
          let z = under k a b in
          omega arith;
      room =
          let d : (m.service.quote + own.process) - own.quote ≡ (m.service.quote + process) - quote = omega arith in
          let x : bound_of own ((m.service.quote + own.process) - own.quote) ≡ for_days table ((m.service.quote + process) - quote) = (λ i. for_days (e.bounds i) (d i)) in
          let y = copy ((m.service.quote + process) - quote) (omega arith) in
          let b = e.stock in
          omega arith;
      bounded = λ j k h.
          let x = ap (λ xs. total (take k (drop j xs))) e.orders in
          let z = zeros_total horizon j k in
          omega arith;
      stock =
          let x : span own.quote (m.service.quote + own.process) (book_of own) ≡ span own.quote (m.service.quote + own.process) no_orders = ap (span own.quote (m.service.quote + own.process)) e.orders in
          let z = zeros_total horizon own.quote ((m.service.quote + own.process) - own.quote) in
          let s = e.shelf in
          let b = e.stock in
          omega arith;
      coming = λ j l.
          ap (λ xs. get_or xs j 0) e.works ∙ zeros_get horizon j ∙ sym (ap (λ xs. get_or xs (m.service.quote + j) 0) e.orders ∙ zeros_get horizon (m.service.quote + j));
    }
