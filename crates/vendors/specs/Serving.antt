-- A vendor's inside keeps the supplier's meaning, whatever its kind and its limit.
use Rattle.std.specs.Prelude.{◌≡◌, ℕ, ◌+◌, ◌*◌, ◌≤◌, List, [], ◌∷◌, Ok, Err, Result, refl}
use Rattle.std.proofs.Common.{sym, ap, subst, ◌∙◌, add-zero, div-one, mul_comm, arith}
use Rattle.figures.specs.Days.{for_days, horizon, most}
use Rattle.figures.proofs.Totals.{window_front}
use Rattle.supplier.specs.declared.fault.Fault.{Fault}
use Rattle.supplier.specs.declared.line.Kind.{Kind}
use Rattle.supplier.specs.Orders.{due}
use Rattle.supplier.specs.Books.{orders_of}
use Rattle.supplier.specs.Meaning.{Sound, Day}
use Rattle.supplier.proofs.Windows.{limit-high, limit-grows}
use Rattle.supplier.proofs.Finders.{finds_agree}
use Rattle.supplier.proofs.Books.{orders-long}
use Rattle.supplier.proofs.Services.{finder_steady}
use Rattle.vendors.specs.declared.source.Source.{Source}
use Rattle.vendors.specs.Periods.{Tells, Rises, daily}
use Rattle.vendors.specs.Sources.{vendor_of, Served}
use Rattle.vendors.specs.Vended.{vended, vendor_line, vendor_layout}

pub vendor_sound : (kind : Kind) (limit : ℕ → ℕ) (s : Source) → Tells limit s.ledger.limits.bounds → Sound (vendor_of kind limit s)
vendor_sound kind limit s tells = record {
  service = finder_steady s.ledger.number s.quote limit s.ledger.days (orders_of s.ledger.book) s.near
      (λ k a b. subst (λ n. n ≤ most) (tells k a b) (limit-high s.ledger.limits.bounds s.ledger.limits.high k))
      (λ k a b.
      let g = limit-grows s.ledger.limits.bounds s.ledger.limits.grows k a b in
      let x = tells k a (omega arith) in
      let y = tells (k + 1) (omega arith) (omega arith) in
      omega arith)
      s.ledger.until (orders-long s.ledger.book) s.ledger.before;
  some = omega arith;
  few = omega arith;
}

pub vendor_day : (kind : Kind) (limit : ℕ → ℕ) (s : Source) (q : ℕ) (r : Result ℕ Fault) (t : Source) → Tells limit s.ledger.limits.bounds → Served s q r t →
    Day (vendor_layout kind s.ledger.number s.quote) (vendor_of kind limit s) q r (vendor_of kind limit t)
vendor_day kind limit s q (Ok d) t tells v =
    let book = orders_of s.ledger.book in
    let f = finds_agree s.ledger.number (for_days s.ledger.limits.bounds) limit s.ledger.days book q tells in
    let e = v.entry in (
      sym f ∙ v.free,
      v.due,
      record { quote = v.quote; limit = refl; days = e.days; book = e.book },
      (λ i. vendor_line kind (e.number i) (v.quote i) (e.book i) ((v.last ∙ v.due) i) ∷ [])
          ∙ ap (λ n. record { number = s.ledger.number; kind = kind; order = q; delivery = due s.quote book q; held = n } ∷ []) (window_front s.quote horizon (q ∷ book) s.near),
    )
vendor_day kind limit s q (Err g) t tells (e, same) =
    let book = orders_of s.ledger.book in
    let f = finds_agree s.ledger.number (for_days s.ledger.limits.bounds) limit s.ledger.days book q tells in
    (sym f ∙ e, λ i. vended kind (same.ledger i).number (same.quote i) limit (same.ledger i).days (orders_of (same.ledger i).book) (same.last i))

-- a day keeps a vendor's number and quote, whatever it answers
pub vendor_lays : (kind : Kind) (s : Source) (q : ℕ) (r : Result ℕ Fault) (t : Source) → Served s q r t →
    vendor_layout kind t.ledger.number t.quote ≡ vendor_layout kind s.ledger.number s.quote
vendor_lays kind s q (Ok d) t v = λ i. vendor_layout kind (v.entry.number i) (v.quote i)
vendor_lays kind s q (Err g) t (e, same) = λ i. vendor_layout kind (same.ledger i).number (same.quote i)

-- a day keeps a vendor's table
pub served_bounds : (s : Source) (q : ℕ) (r : Result ℕ Fault) (t : Source) → Served s q r t → t.ledger.limits.bounds ≡ s.ledger.limits.bounds
served_bounds s q (Ok d) t v = v.entry.bounds
served_bounds s q (Err g) t (e, same) = ap (λ l. l.limits.bounds) same.ledger

-- periods of one day are days
pub one-day : (max : ℕ) (bounds : List ℕ) → Rises 1 max bounds → Tells (daily max) bounds
one-day max bounds rises k a b =
    rises k a b ∙ ap (λ n. max * n) (div-one (k + 0) ∙ add-zero k) ∙ mul_comm max k
