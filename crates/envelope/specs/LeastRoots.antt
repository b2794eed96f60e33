-- Least roots: each number has one, and how it grows.
use Rattle.std.specs.Prelude.{◌≡◌, ℕ, zero, suc, ◌+◌, ◌*◌, ◌<◌, ◌≤◌, leb, Some, None, Option, nat_le, refl}
use Rattle.std.proofs.Common.{⊎_elim, zero-le, add-mul, mul-add, mul-le-mul, mul-le-mul_left, arith}
use Rattle.std.specs.Option.{unwrap_or}
use Rattle.std.proofs.lemmas.Bool.{cases_lt, both_ways, leb-true, leb-false, le-leb}
use Rattle.figures.specs.Least.{least}
use Rattle.figures.proofs.Least.{least_shows, absent_shows}
use Rattle.envelope.specs.Roots.{LeastRoot, root_up}

-- a number whose square reaches n is above one whose square falls short
pub above-short : (n m s : ℕ) → m * m < n → n ≤ s * s → m < s
above-short n m s short reach =
    ⊎_elim (λ (h : m < s). h) (λ (h : s ≤ m). let q : s * s ≤ m * m = mul-le-mul h h in absurd (omega arith)) (cases_lt m s)

-- the square of a sum
pub square_sum : (a b : ℕ) → (a + b) * (a + b) ≡ (a * a + a * b) + (b * a + b * b)
square_sum a b =
    let p = add-mul a b (a + b) in
    let q = mul-add a a b in
    let r = mul-add b a b in
    omega arith

-- a square is no smaller than its root
square_above : (n : ℕ) → n ≤ n * n
square_above zero = zero-le
square_above (suc n) = let one : 1 ≤ suc n = omega arith in omega (arith, mul-le-mul_left (suc n) one)

root_from : (n : ℕ) (o : Option ℕ) → least (λ r. leb n (r * r)) 0 (suc n) ≡ o → LeastRoot n (unwrap_or o 0)
root_from n None e =
    absurd (let s = square_above n in let f = leb-false n (n * n) (absent_shows (λ r. leb n (r * r)) 0 (suc n) e n zero-le (omega arith)) in omega arith)
root_from n (Some r) e =
    let f = least_shows (λ r. leb n (r * r)) 0 (suc n) r e in (
      leb-true n (r * r) f.passes,
      λ s h. ⊎_elim (λ (l : s < r). absurd (both_ways (nat_le n (s * s)) (f.first s zero-le l) (le-leb n (s * s) h))) (λ (l : r ≤ s). l) (cases_lt s r),
    )

pub root_is : (n : ℕ) → LeastRoot n (root_up n)
unfolding root_up
root_is n = root_from n (least (λ r. leb n (r * r)) 0 (suc n)) refl

-- a number has one least root
pub one_root : (n a b : ℕ) → LeastRoot n a → LeastRoot n b → a ≡ b
one_root n a b l m =
    let p = l.1 b m.0 in
    let q = m.1 a l.0 in
    omega arith

pub is_root_up : (n r : ℕ) → LeastRoot n r → r ≡ root_up n
is_root_up n r l = one_root n r (root_up n) l (root_is n)

pub root_grows : (m n : ℕ) → m ≤ n → root_up m ≤ root_up n
root_grows m n h = let r = root_is n in (root_is m).1 (root_up n) (omega arith)

pub root_under : (n s : ℕ) → n ≤ s * s → root_up n ≤ s
root_under n s h = (root_is n).1 s h

pub root_joins : (m n : ℕ) → root_up (m + n) ≤ root_up m + root_up n
root_joins m n =
    let a = root_is m in
    let b = root_is n in
    let q = square_sum (root_up m) (root_up n) in
    (root_is (m + n)).1 (root_up m + root_up n) (omega arith)
