-- Sums over parts of a list of amounts, of any length.
use Rattle.std.proofs.Common.{◌≡◌, ℕ, zero, suc, ◌+◌, ◌-◌, ◌*◌, ◌<◌, ◌≤◌, ltb, List, [], ◌∷◌, length, get_or, take, drop, replicate, Some, None, unwrap_or, sym, refl, ap, ◌∙◌, zero-le, zero-add, add-zero, mul-suc, add-one, arith}
use Rattle.std.proofs.lemmas.Bool.{cond-false, le-ltb}
use Rattle.std.proofs.lemmas.List.{take-take, drop-take, drop-drop, get_or-drop, drop-replicate, length-take}
use Rattle.std.specs.Prelude.{sum_by}
use Rattle.std.proofs.lemmas.List.Sums.{sum_by-cons}
use Rattle.std.specs.List.{range_with_len}
use Rattle.figures.specs.Days.{horizon, near, total, window, span, pushed}

-- one more amount at the far end of a window
pub window-suc : (n : ℕ) (xs : List ℕ) → window n xs + get_or xs n 0 ≡ window (suc n) xs
window-suc zero [] = refl
window-suc zero (x ∷ xs) = omega arith
window-suc (suc n) [] = refl
window-suc (suc n) (x ∷ xs) = let h = window-suc n xs in omega arith

pub window_more : (n : ℕ) (xs : List ℕ) → window (n + 1) xs ≡ window n xs + get_or xs n 0
window_more n xs = rw (add-one n) (sym (window-suc n xs))

-- the first amount stands before the others
pub window-first : (n : ℕ) (xs : List ℕ) → window (suc n) xs ≡ get_or xs 0 0 + window n (drop 1 xs)
window-first zero [] = refl
window-first (suc n) [] = refl
window-first n (x ∷ xs) = refl

-- a stretch that moves on by one place loses its first amount and takes in one more at the end
pub slides : (n m : ℕ) (xs : List ℕ) →
    total (take n (drop m xs)) + get_or xs (m + n) 0 ≡ get_or xs m 0 + total (take n (drop (suc m) xs))
slides n zero xs = rw (zero-add n) (window-suc n xs ∙ window-first n xs)
slides zero (suc m) [] = refl
slides (suc n) (suc m) [] = refl
slides n (suc m) (x ∷ xs) = let e : suc m + n ≡ suc (m + n) = omega arith in rw e (slides n m xs)

-- a part of the front is a part of the whole
pub part_of_front : (j k n : ℕ) (xs : List ℕ) → j + k ≤ n → take k (drop j (take n xs)) ≡ take k (drop j xs)
part_of_front j k n xs h =
    let e : n ≡ j + (n - j) = omega arith in
    let l : k ≤ n - j = omega arith in
    ap (λ m. take k (drop j (take m xs))) e ∙ ap (take k) (drop-take j (n - j) xs) ∙ take-take k (n - j) (drop j xs) l

-- a window of a list's front is a window of the list
pub window_front : (k n : ℕ) (xs : List ℕ) → k ≤ n → window k (take n xs) ≡ window k xs
window_front k n xs h = ap total (take-take k n xs h)

pub pushed-length : (n x : ℕ) (xs : List ℕ) → length xs ≡ n → length (pushed n x xs) ≡ n
pushed-length n x xs long = let l = length-take n (x ∷ xs) in omega arith

-- what is 0 in a list is 0 in its front
pub front_zero : (n : ℕ) (xs : List ℕ) (j : ℕ) → get_or xs j 0 ≡ 0 → get_or (take n xs) j 0 ≡ 0
front_zero zero xs j h = refl
front_zero (suc n) [] j h = refl
front_zero (suc n) (x ∷ xs) zero h = h
front_zero (suc n) (x ∷ xs) (suc j) h = front_zero n xs j h

-- of the amounts from `upto` to `from`, one more takes in the one at `upto` and lets go of the one at `from`
pub span-pushed : (n upto from x : ℕ) (xs : List ℕ) → upto ≤ from → from ≤ n →
    span upto from (pushed n x xs) + get_or (x ∷ xs) from 0 ≡ span upto from xs + get_or (x ∷ xs) upto 0
span-pushed n upto from x xs h l =
    let e : upto + (from - upto) ≡ from = omega arith in
    let p : upto + (from - upto) ≤ n = omega arith in
    let a = slides (from - upto) upto (x ∷ xs) in
    let b : get_or (x ∷ xs) (upto + (from - upto)) 0 ≡ get_or (x ∷ xs) from 0 = ap (λ m. get_or (x ∷ xs) m 0) e in
    let d : total (take (from - upto) (drop upto (pushed n x xs))) ≡ total (take (from - upto) (drop upto (x ∷ xs))) = ap total (part_of_front upto (from - upto) n (x ∷ xs) p) in
    omega arith

-- a window of no amounts
pub window-none : (n : ℕ) → window n [] ≡ 0
window-none zero = refl
window-none (suc n) = refl

-- a window and the stretch after it
pub window_then : (i j : ℕ) (xs : List ℕ) → window i xs + total (take j (drop i xs)) ≡ window (i + j) xs
window_then zero j xs = rw (zero-add j) (zero-add (total (take j xs)))
window_then (suc i) j [] = omega (arith, window-none j, window-none (suc i + j))
window_then (suc i) j (x ∷ xs) =
    let h = window_then i j xs in
    let e : suc i + j ≡ suc (i + j) = omega arith in
    rw e (omega arith)

-- a stretch of a list's front is a stretch of the list
pub span_front : (n upto from : ℕ) (xs : List ℕ) → upto ≤ from → from ≤ n → span upto from (take n xs) ≡ span upto from xs
span_front n upto from xs h l = ap total (part_of_front upto (from - upto) n xs (omega arith))

-- a reading up to the horizon is present
pub near_value : (k x : ℕ) → k ≤ horizon → unwrap_or (near k x) 0 ≡ x
near_value k x h = ap (λ o. unwrap_or o 0) (cond-false (ltb horizon k) None (Some x) (le-ltb horizon k h))

-- zeros stay zeros
pub zeros_get : (n k : ℕ) → ◌≡◌ {A = ℕ} (get_or (replicate n 0) k 0) 0
zeros_get zero k = refl
zeros_get (suc n) zero = refl
zeros_get (suc n) (suc k) = zeros_get n k

pub zeros_window : (n k : ℕ) → window k (replicate n 0) ≡ 0
zeros_window n zero = refl
zeros_window zero (suc k) = refl
zeros_window (suc n) (suc k) = let h = zeros_window n k in omega arith

pub zeros_total : (n j k : ℕ) → total (take k (drop j (replicate n 0))) ≡ 0
zeros_total n j k = rw (drop-replicate {X = ℕ} j n 0) (zeros_window (n - j) k)

-- amounts that are each at most b add up to at most b for each place
pub window-small : (b : ℕ) (k : ℕ) (xs : List ℕ) → ((i : ℕ) → get_or xs i 0 ≤ b) → window k xs ≤ b * k
window-small b zero xs h = zero-le
window-small b (suc k) [] h = zero-le
window-small b (suc k) (x ∷ xs) h =
    let r = window-small b k xs (λ i. h (suc i)) in
    let z = h 0 in
    let e = mul-suc b k in
    omega arith

-- amounts that are each at most b stay so where one at most b is put before them
pub pushed-small : (b n x : ℕ) (xs : List ℕ) → ((i : ℕ) → get_or xs i 0 ≤ b) → x ≤ b → (i : ℕ) → get_or (pushed n x xs) i 0 ≤ b
pushed-small b zero x xs h l i = zero-le
pushed-small b (suc n) x xs h l zero = l
pushed-small b (suc n) x xs h l (suc i) = front_small n xs h i
  where
    front_small : (n : ℕ) (ys : List ℕ) → ((i : ℕ) → get_or ys i 0 ≤ b) → (i : ℕ) → get_or (take n ys) i 0 ≤ b
    front_small zero ys g i = zero-le
    front_small (suc n) [] g i = zero-le
    front_small (suc n) (y ∷ ys) g zero = g 0
    front_small (suc n) (y ∷ ys) g (suc i) = front_small n ys (λ k. g (suc k)) i

-- lists with the same places have the same windows
pub window_agree : (n : ℕ) (xs ys : List ℕ) → ((j : ℕ) → j < n → get_or xs j 0 ≡ get_or ys j 0) → window n xs ≡ window n ys
window_agree zero xs ys h = refl
window_agree (suc n) xs ys h =
    let a = window-suc n xs in
    let b = window-suc n ys in
    let c = h n (omega arith) in
    let d = window_agree n xs ys (λ j l. h j (omega arith)) in
    omega arith

-- amounts read one by one from the place a on are a part of the list
pub read_on : (xs : List ℕ) (a n : ℕ) → sum_by (λ j. get_or xs j 0) (range_with_len a n) ≡ total (take n (drop a xs))
read_on xs a zero = refl
read_on xs a (suc n) =
    let h = read_on xs (a + 1) n in
    let first = window-first n (drop a xs) in
    let here = get_or-drop a xs 0 0 ∙ ap (λ j. get_or xs j 0) (add-zero a) in
    let on = ap (λ (ys : List ℕ). total (take n ys)) (drop-drop 1 a xs) in
    let more = sum_by-cons (λ j. get_or xs j 0) a (range_with_len (a + 1) n) in
    omega arith
