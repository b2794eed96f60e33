-- Proofs of the laws of suppliers for a stage: its meaning is sound, its shelves hold what is told, and its limit is its envelope.
use Rattle.std.specs.Prelude.{◌≡◌, ℕ, zero, suc, ◌+◌, ◌-◌, ◌≤◌, List, ◌∷◌, map, refl}
use Rattle.std.specs.List.{AllByRecursion}
use Rattle.std.proofs.Common.{sym, ap, zero-le, arith, one-mul}
use Rattle.figures.specs.Days.{horizon, span}
use Rattle.supplier.specs.Meaning.{Meaning, Sound}
use Rattle.supplier.specs.Shelves.{Placed, Shelved, Enveloped, allowed}
use Rattle.supplier.proofs.Windows.{limit-high, limit-grows}
use Rattle.supplier.proofs.Books.{orders-long}
use Rattle.supplier.proofs.Services.{finder_steady}
use Rattle.layers.specs.Sheets.{later}
use Rattle.layers.proofs.Topped.{sound-topped, shelves-later}
use Rattle.stages.specs.declared.stock.Stock.{Stock}
use Rattle.stages.specs.Stages.{staged, own_shelf, bound_of, book_of, Tied}

pub staged_sound : (own : Stock) (m : Meaning) → Sound (staged own m)
staged_sound own m =
    sound-topped _ _ m.sheet
    (finder_steady own.ledger.number own.quote (bound_of own) own.ledger.days (book_of own) own.near
    (λ k a b. limit-high own.ledger.limits.bounds own.ledger.limits.high k)
    (limit-grows own.ledger.limits.bounds own.ledger.limits.grows)
    own.ledger.until (orders-long own.ledger.book) own.ledger.before)

allowed_bound : (own : Stock) (k : ℕ) → allowed (bound_of own) k ≡ bound_of own k
allowed_bound own zero = refl
allowed_bound own (suc k) = refl

-- its own shelf stands first, and those below it one place later
pub staged_shelved : (own : Stock) (m : Meaning) (ps : List Placed) → Tied m own → AllByRecursion (Shelved m) ps →
    AllByRecursion (Shelved (staged own m)) (own_shelf own.base own.quote (m.service.quote + own.process) ∷ map later ps)
staged_shelved own m ps tied all =
    let from = m.service.quote + own.process in
    let a = one-mul (allowed (bound_of own) (from - own.quote)) in
    let b = one-mul (span own.quote from (book_of own)) in
    let r = tied.room in
    let e = allowed_bound own (from - own.quote) in (
      record { order = tied.early; near = tied.within; room = omega arith; told = λ l. (refl, ap (λ n. own.base - n) (sym b)) },
      shelves-later m (staged own m) _ tied.same under refl ps all,
    )
  where
    under : (k : ℕ) → k ≤ horizon → allowed (bound_of own) k ≤ allowed m.service.limit k
    under zero h = zero-le
    under (suc k) h = tied.under (suc k) (omega arith) h

pub staged_enveloped : (own : Stock) (m : Meaning) (ps : List Placed) →
    Enveloped (staged own m) (own_shelf own.base own.quote (m.service.quote + own.process) ∷ ps) (bound_of own)
staged_enveloped own m ps = record { none = refl; joins = own.joins; same = λ k a b. refl; own = (refl, refl) }
