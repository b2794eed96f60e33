-- The waits of a weekly calendar, by one test that is computed for every mask and every day of the week.
use Rattle.std.proofs.Common.{◌≡◌, ℕ, zero, suc, ◌+◌, ◌-◌, ◌*◌, ◌/◌, ◌%◌, ◌^◌, ◌<◌, ◌≤◌, Bool, true, false, ◌&&◌, eqb, Some, None, Option, unwrap_or, sym, refl, ap, ◌∙◌, subst, ⊎_elim, mod-lt, mod-eq_of_lt, add-sub_cancel, arith}
use native.Mathlib.Nat.{mod-add-mod}
use lib.Bits.{bit_and, bit_or}
use lib.Count.{ones, ones_in, count_trailing_zeros}
use Rattle.std.proofs.lemmas.Bool.{and_parts, both_ways, eqb-true, cases_eq, cases_lt, cases_order}
use Rattle.figures.specs.Least.{least}
use Rattle.figures.proofs.Least.{Found, least_shows}
use Rattle.vendors.specs.Departures.{week, bit, departs, departures, wait, longest, greatest, Leaves, Timely}

-- every number below n passes
abbrev pub every : (ℕ → Bool) → ℕ → Bool
every test zero = true
every test (suc n) = every test n && test n

pub every_at : (test : ℕ → Bool) (n : ℕ) → every test n ≡ true → (k : ℕ) → k < n → test k ≡ true
every_at test zero e k h = absurd (omega arith)
every_at test (suc n) e k h =
    let p = and_parts (every test n) (test n) e in
    ⊎_elim (λ (s : k ≡ n). ap test s ∙ p.1) (λ (s : k ≡ n → ⊥). every_at test n p.0 k (omega (arith, s))) (cases_eq k n)

-- the mask as it stands p days after the week began
abbrev pub turned : ℕ → ℕ → ℕ
turned mask p = bit_and (bit_or (mask / 2 ^ p) ((mask * 2 ^ (7 - p)) % 2 ^ 32)) 127

-- the first departure is found, by the zeros below the lowest bit
abbrev found_by_zeros : ℕ → ℕ → Option ℕ → Bool
found_by_zeros mask p None = false
found_by_zeros mask p (Some i) = eqb (count_trailing_zeros 32 (turned mask p)) i

abbrev zeros_tell : ℕ → Bool
zeros_tell mask = every (λ p. found_by_zeros (suc mask) p (least (λ i. bit (suc mask) ((p + i) % week)) 0 week)) week

all_zeros_tell : every zeros_tell 127 ≡ true
unfolding count_trailing_zeros
all_zeros_tell = refl

all_ones_tell : every (λ mask. eqb (ones mask) (departures mask)) 128 ≡ true
unfolding ones ones_in departures
all_ones_tell = refl

pub ones_departures : (mask : ℕ) → mask ≤ 127 → ones mask ≡ departures mask
ones_departures mask h =
    eqb-true (ones mask) (departures mask) (every_at (λ m. eqb (ones m) (departures m)) 128 all_ones_tell mask (omega arith))

-- what is known of a wait: it is the zeros' count, and the first departure comes after it
pub record Waits (mask p : ℕ) : Type 0 where
  pub zeros : count_trailing_zeros 32 (turned mask p) ≡ wait mask p
  pub found : Found (λ i. bit mask ((p + i) % week)) 0 week (wait mask p)

waits_from : (mask p : ℕ) (o : Option ℕ) → least (λ i. bit mask ((p + i) % week)) 0 week ≡ o → found_by_zeros mask p o ≡ true → Waits mask p
unfolding wait
waits_from mask p None e t = absurd (both_ways false refl t)
waits_from mask p (Some i) e t =
    let w : unwrap_or (least (λ i. bit mask ((p + i) % week)) 0 week) 0 ≡ i = ap (λ o. unwrap_or o 0) e in
    let s = least_shows (λ i. bit mask ((p + i) % week)) 0 week i e in
    record {
      zeros = eqb-true (count_trailing_zeros 32 (turned mask p)) i t ∙ sym w;
      found = subst (Found (λ i. bit mask ((p + i) % week)) 0 week) (sym w) s;
    }

pub waits : (mask p : ℕ) → 1 ≤ mask → mask ≤ 127 → p < week → Waits mask p
waits zero p a b h = absurd (omega arith)
waits (suc mask) p a b h =
    let m = every_at zeros_tell 127 all_zeros_tell mask (omega arith) in
    let t = every_at (λ p. found_by_zeros (suc mask) p (least (λ i. bit (suc mask) ((p + i) % week)) 0 week)) week m p h in
    waits_from (suc mask) p (least (λ i. bit (suc mask) ((p + i) % week)) 0 week) refl t

-- the weekday of the day that comes i days after day t
weekday_after : (t i : ℕ) → 1 ≤ t → ((t - 1) % week + i) % week ≡ ((t + i) - 1) % week
weekday_after t i h = let e : (t - 1) + i ≡ (t + i) - 1 = omega arith in mod-add-mod (t - 1) week i ∙ ap (λ n. n % week) e

-- an order leaves after its wait
pub leaves_after : (mask t : ℕ) → 1 ≤ mask → mask ≤ 127 → 1 ≤ t → Leaves mask t (t + wait mask ((t - 1) % week))
leaves_after mask t a b h =
    let p = (t - 1) % week in
    let w = (waits mask p a b (mod-lt (t - 1) (omega arith))).found in
    record {
      later = omega arith;
      goes = ap (bit mask) (sym (weekday_after t (wait mask p) h)) ∙ w.passes;
      first = λ d l m.
          let i = d - t in
          let e : t + i ≡ d = omega arith in
          ap (λ n. bit mask ((n - 1) % week)) (sym e) ∙ ap (bit mask) (sym (weekday_after t i h)) ∙ w.first i (omega arith) (omega arith);
    }

-- the largest value is at least each, and is one of them
pub greatest-above : (f : ℕ → ℕ) (n k : ℕ) → k < n → f k ≤ greatest f n
greatest-above f zero k h = absurd (omega arith)
greatest-above f (suc n) k h =
    ⊎_elim
    (λ (s : k ≡ n). let e = ap f s in omega arith)
    (λ (s : k ≡ n → ⊥). let r = greatest-above f n k (omega (arith, s)) in omega arith)
    (cases_eq k n)

pub greatest_met : (f : ℕ → ℕ) (n : ℕ) → (k : ℕ) × (k < suc n) × (f k ≡ greatest f (suc n))
greatest_met f zero = (0, omega arith, omega arith)
greatest_met f (suc n) = go (greatest_met f n)
  where
    go : ((k : ℕ) × (k < suc n) × (f k ≡ greatest f (suc n))) → (k : ℕ) × (k < suc (suc n)) × (f k ≡ greatest f (suc (suc n)))
    go (k, l, e) =
        ⊎_elim
        (λ (h : f (suc n) < greatest f (suc n)). (k, omega arith, e ∙ omega arith))
        (λ (h : greatest f (suc n) ≤ f (suc n)). (suc n, omega arith, omega arith))
        (cases_lt (f (suc n)) (greatest f (suc n)))

-- the quote is the travel and the longest wait, and not a day more
pub timely : (mask travel : ℕ) → 1 ≤ mask → mask ≤ 127 → Timely mask travel (travel + longest mask)
unfolding longest
timely mask travel a b = record {
  arrives = λ t h.
      let w = greatest-above (wait mask) week ((t - 1) % week) (mod-lt (t - 1) (omega arith)) in
      (t + wait mask ((t - 1) % week), leaves_after mask t a b h, omega arith);
  tight =
      let g = greatest_met (wait mask) 6 in
      let t = g.0 + 1 in
      let m : (t - 1) % week ≡ g.0 = ap (λ n. n % week) (add-sub_cancel g.0 1) ∙ mod-eq_of_lt g.1 in
      let e : wait mask ((t - 1) % week) ≡ greatest (wait mask) week = ap (wait mask) m ∙ g.2 in
      (t, omega arith, (t + wait mask ((t - 1) % week), leaves_after mask t a b (omega arith), omega arith));
}

-- an order leaves on one day
pub leaves_once : (mask t u v : ℕ) → Leaves mask t u → Leaves mask t v → u ≡ v
leaves_once mask t u v a b =
    ⊎_elim (λ (e : u ≡ v). e)
    (⊎_elim
    (λ (l : u < v). absurd (both_ways (departs mask u) (b.first u a.later l) a.goes))
    (λ (l : v < u). absurd (both_ways (departs mask v) (a.first v b.later l) b.goes)))
    (cases_order u v)

-- it has arrived by the quoted day
pub leaves-timely : (mask travel t u : ℕ) → 1 ≤ mask → mask ≤ 127 → 1 ≤ t → Leaves mask t u → u + travel ≤ t + (travel + longest mask)
leaves-timely mask travel t u a b h l =
    let k = (timely mask travel a b).arrives t h in
    let e = leaves_once mask t u k.0 l k.1 in
    let n = k.2 in
    omega arith
