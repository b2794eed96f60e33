-- The figures of a table that pass, and the laws of its curve.
use Rattle.std.specs.Prelude.{◌≡◌, ℕ, zero, suc, ◌+◌, ◌-◌, ◌*◌, ◌<◌, ◌≤◌, List, ◌∷◌, length, replicate, slice_index, refl}
use Rattle.std.proofs.Common.{sym, ap, subst, inl, inr, ⊎_elim, zero-le, zero-mul, mul-zero, zero-add, add-zero, arith}
use Rattle.std.proofs.lemmas.List.{get_or-replicate, length-replicate}
use Rattle.figures.specs.declared.ranges.Range.{Range}
use Rattle.figures.specs.Days.{for_days, horizon, most}
use Rattle.figures.specs.Ranges.{Within, AllIn, missing}
use Rattle.figures.proofs.Totals.{zeros_get}
use Rattle.envelope.specs.Curves.{Lawful, daily}
use Rattle.envelope.specs.CurvesLemmas.{not_below}
use Rattle.figures.proofs.Answered.{all_in_more}
use Rattle.envelope.specs.Tables.{bound_ranges, table_ranges, Torn, BrokenAt, Bounded, Unbroken, table_curve}

-- the figures of a list that all have one range
pub all-within : (n : ℕ) (range : Range) (xs : List ℕ) → length xs ≡ n → AllIn (replicate n range) xs → (i : ℕ) → i < n → Within range (slice_index xs i)
all-within n range xs long all i h =
    let e = get_or-replicate n i range missing h in
    let l = length-replicate {A = Range} n range in
    subst (λ r. Within r (slice_index xs i)) e (all i (omega arith) (omega arith))

-- bounds in their ranges are bounded
pub bounded : (bounds : List ℕ) → length bounds ≡ horizon → AllIn bound_ranges bounds → Bounded bounds
bounded bounds wide all zero h = zero-le
bounded bounds wide all (suc k) h = (all-within horizon (record { low = 0; high = most }) bounds wide all k (omega arith)).1

-- the figures after the first
pub later : (mean : ℕ) (bounds : List ℕ) → AllIn table_ranges (mean ∷ bounds) → AllIn bound_ranges bounds
later mean bounds within i h g = within (suc i) (omega arith) (omega arith)

-- where no place is broken, no number of days breaks a law
pub no_days : (mean : ℕ) (bounds : List ℕ) → ((p : ℕ) → BrokenAt mean bounds p → ⊥) → Unbroken mean bounds horizon
no_days mean bounds none k from near b = none (k + 1) (k, refl, from, near, b)

pub table_lawful : (mean : ℕ) (bounds : List ℕ) → length bounds ≡ horizon → AllIn table_ranges (mean ∷ bounds) → Unbroken mean bounds horizon →
    Lawful (table_curve mean bounds)
table_lawful mean bounds wide within none = record {
  zero = refl;
  grows = λ k h.
      let e : (k + 1) - 1 ≡ k = omega arith in
      not_below _ _ (λ l. none (k + 1) (omega arith) (omega arith) (inl (rw e l)));
  high = bounded bounds wide (later mean bounds within);
  carries = carries;
  joins = joins;
}
  where
    carries : (k : ℕ) → k ≤ horizon → k * mean ≤ for_days bounds k
    carries zero h = omega (arith, zero-mul mean)
    carries (suc k) h = not_below _ _ (λ l. none (suc k) (omega arith) h (inr (inl l)))

    joins : (i j : ℕ) → i + j ≤ horizon → for_days bounds (i + j) ≤ for_days bounds i + for_days bounds j
    joins zero j h = let e = ap (for_days bounds) (zero-add j) in omega arith
    joins (suc i) zero h = let e = ap (for_days bounds) (add-zero (suc i)) in omega arith
    joins (suc i) (suc j) h =
        not_below _ _ (λ l. none (suc i + suc j) (omega arith) h (inr (inr (suc i, suc j, omega arith, omega arith, refl, l))))

zeros_within : (n top : ℕ) → AllIn (replicate n (record { low = 0; high = top })) (replicate n 0)
zeros_within n top i h g =
    let l = length-replicate {A = ℕ} n 0 in
    let z = zeros_get n i in
    subst (λ (r : Range). Within r (slice_index (replicate n 0) i)) (sym (get_or-replicate n i (record { low = 0; high = top }) missing (omega arith))) (omega arith, omega arith)

zero-bound : (n k : ℕ) → for_days (replicate n 0) k ≡ 0
zero-bound n zero = refl
zero-bound n (suc k) = zeros_get n k

-- figures that are all 0 pass
pub zeros_in : AllIn table_ranges (0 ∷ replicate horizon 0)
zeros_in = all_in_more daily 0 bound_ranges (replicate horizon 0) (omega arith, omega arith) (zeros_within horizon most)

pub zeros_unbroken : (n : ℕ) (p : ℕ) → BrokenAt 0 (replicate n 0) p → ⊥
zeros_unbroken n p b =
    let V = for_days (replicate n 0) in
    let k = b.0 in
    let z = zero-bound n k in
    ⊎_elim (λ (l : V k < V (k - 1)). omega (arith, zero-bound n (k - 1)))
    (⊎_elim (λ (l : V k < k * 0). omega (arith, mul-zero k)) (λ (t : Torn (replicate n 0) k). omega (arith, t.5)))
    b.4
