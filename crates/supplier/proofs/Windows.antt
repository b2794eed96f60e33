-- When a window is the first that an order breaks, and when none is.
use Rattle.std.proofs.Common.{◌≡◌, ℕ, zero, suc, ◌+◌, ◌-◌, ◌<◌, ◌≤◌, ltb, List, ◌∷◌, get_or, Some, None, Option, sym, refl, ap, ◌∙◌, subst, zero-le, add-one, arith}
use Rattle.std.specs.Option.{option_map}
use Rattle.std.proofs.lemmas.Bool.{ltb-true, ltb-false, lt-ltb, le-ltb}
use Rattle.figures.specs.Days.{for_days, horizon, most, window}
use Rattle.figures.proofs.Least.{least_found, least_absent, least_shows, absent_shows, least_agree}
use Rattle.supplier.specs.Orders.{FitsWithin}
use Rattle.supplier.specs.Limits.{High, Grows}
use Rattle.supplier.specs.Windows.{Clear, least_broken, broken_at, first_broken}

module _ (n : ℕ) (limit : ℕ → ℕ) (book : List ℕ) (q : ℕ) where
  pub broken_found : (k : ℕ) → 1 ≤ k → k ≤ n → limit k < window k (q ∷ book) → Clear limit book q k → least_broken n limit book q ≡ Some k
  unfolding least_broken
  broken_found k a b h clear =
      least_found (λ j. ltb (limit j) (window j (q ∷ book))) 1 n k a (omega arith) (lt-ltb (limit k) (window k (q ∷ book)) h)
      (λ j l m. le-ltb (limit j) (window j (q ∷ book)) (clear j l m))

  pub broken_absent : FitsWithin n limit book q → least_broken n limit book q ≡ None
  unfolding least_broken
  broken_absent fits =
      least_absent (λ j. ltb (limit j) (window j (q ∷ book))) 1 n
      (λ j l m. le-ltb (limit j) (window j (q ∷ book)) (fits j l (omega arith)))

  -- what it shows that k is the first window broken
  pub record BreaksFirst (k : ℕ) : Type 0 where
    pub some : 1 ≤ k
    pub near : k ≤ n
    pub over : limit k < window k (q ∷ book)
    pub clear : Clear limit book q k

  pub broken_shows : (k : ℕ) → least_broken n limit book q ≡ Some k → BreaksFirst k
  unfolding least_broken
  broken_shows k e =
      let f = least_shows (λ j. ltb (limit j) (window j (q ∷ book))) 1 n k e in
      record {
        some = f.from;
        near = let u = f.upto in omega arith;
        over = ltb-true (limit k) (window k (q ∷ book)) f.passes;
        clear = λ j l m. ltb-false (limit j) (window j (q ∷ book)) (f.first j l m);
      }

  pub unbroken_shows : least_broken n limit book q ≡ None → FitsWithin n limit book q
  unfolding least_broken
  unbroken_shows e k l m =
      ltb-false (limit k) (window k (q ∷ book)) (absent_shows (λ j. ltb (limit j) (window j (q ∷ book))) 1 n e k l (omega arith))

-- limits that agree up to n days break at the same window
pub broken_agree : (n : ℕ) (f g : ℕ → ℕ) (book : List ℕ) (q : ℕ) → ((k : ℕ) → 1 ≤ k → k ≤ n → f k ≡ g k) → least_broken n f book q ≡ least_broken n g book q
unfolding least_broken
broken_agree n f g book q h =
    least_agree (λ k. ltb (f k) (window k (q ∷ book))) (λ k. ltb (g k) (window k (q ∷ book))) 1 n
    (λ j l m. ap (λ n. ltb n (window j (q ∷ book))) (h j l (omega arith)))

-- and tell the same figures of it
pub first_agree : (f g : ℕ → ℕ) (book : List ℕ) (q : ℕ) → ((k : ℕ) → 1 ≤ k → k ≤ horizon → f k ≡ g k) → first_broken f book q ≡ first_broken g book q
first_agree f g book q h = by (least_broken horizon f book q) refl ∙ ap (option_map (broken_at g book q)) (broken_agree horizon f g book q h)
  where
    by : (o : Option ℕ) → least_broken horizon f book q ≡ o → option_map (broken_at f book q) o ≡ option_map (broken_at g book q) o
    by None e = refl
    by (Some k) e =
        let b = broken_shows horizon f book q k e in
        ap (λ n. Some (record { window = k; bound = n; sum = window k (q ∷ book) })) (h k b.some b.near)

-- the table's place of the limit of k days
pub limit_at : (bounds : List ℕ) (i : ℕ) → for_days bounds (i + 1) ≡ get_or bounds i 0
limit_at bounds i = ap (for_days bounds) (add-one i)

pub limit-high : (bounds : List ℕ) → High bounds → (k : ℕ) → for_days bounds k ≤ most
limit-high bounds h zero = zero-le
limit-high bounds h (suc k) = h k

pub limit-grows : (bounds : List ℕ) → Grows bounds → (k : ℕ) → 1 ≤ k → k < horizon → for_days bounds k ≤ for_days bounds (k + 1)
limit-grows bounds g zero l h = absurd (omega arith)
limit-grows bounds g (suc k) l h =
    let e : suc k + 1 ≡ suc (k + 1) = omega arith in
    subst (λ n. get_or bounds k 0 ≤ for_days bounds n) (sym e) (g k (omega arith))

-- an order, and the same order behind a newer one
pub behind : (q : ℕ) (book : List ℕ) (i : ℕ) → 1 ≤ i → get_or book (i - 1) 0 ≡ get_or (q ∷ book) i 0
behind q book zero h = absurd (omega arith)
behind q book (suc i) h = let e : suc i - 1 ≡ i = omega arith in ap (λ j. get_or book j 0) e
