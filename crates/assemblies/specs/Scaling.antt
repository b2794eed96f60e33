-- Orders that are so many times as large: their windows, their limits and their shelves.
use Rattle.std.specs.Prelude.{◌≡◌, ℕ, zero, suc, ◌-◌, ◌*◌, ◌/◌, ◌≤◌, List, [], ◌∷◌, take, drop, replicate, slice_index, slice_range, refl}
use Rattle.std.proofs.Common.{sym, ap, ◌∙◌, mul-zero, mul-add, mul_comm, div-mul-le_self, mul-le-mul_left, arith}
use Rattle.std.proofs.lemmas.Nat.{le-div}
use Rattle.std.proofs.lemmas.List.{take-map, drop-map}
use Rattle.figures.proofs.Quotients.{div_grows}
use Rattle.figures.specs.Days.{horizon, total, window, span}
use Rattle.supplier.specs.Orders.{entered}
use Rattle.assemblies.specs.Assemblies.{times, shared}

total-times : (c : ℕ) (xs : List ℕ) → total (times c xs) ≡ c * total xs
total-times c [] = sym (mul-zero c)
total-times c (x ∷ xs) = let h = total-times c xs in let e = mul-add c x (total xs) in omega arith

pub window-times : (c k : ℕ) (xs : List ℕ) → window k (times c xs) ≡ c * window k xs
window-times c k xs = ap total (take-map (λ x. c * x) k xs) ∙ total-times c (take k xs)

pub span-times : (c upto from : ℕ) (xs : List ℕ) → span upto from (times c xs) ≡ c * span upto from xs
span-times c upto from xs =
    ap (λ ys. total (take (from - upto) ys)) (drop-map (λ x. c * x) upto xs)
    ∙ ap total (take-map (λ x. c * x) (from - upto) (drop upto xs)) ∙ total-times c (slice_range xs upto from)

pub get-times : (c : ℕ) (xs : List ℕ) (j : ℕ) → slice_index (times c xs) j ≡ c * slice_index xs j
get-times c [] j = sym (mul-zero c)
get-times c (x ∷ xs) zero = refl
get-times c (x ∷ xs) (suc j) = get-times c xs j

pub entered-times : (c q : ℕ) (xs : List ℕ) → entered (c * q) (times c xs) ≡ times c (entered q xs)
entered-times c q xs = take-map (λ x. c * x) horizon (q ∷ xs)

-- so many kits as a share of a limit need no more than the limit
under : (c n x : ℕ) → x ≤ n / c → c * x ≤ n
under c n x h =
    let d = div-mul-le_self n c in
    let m : c * x ≤ c * (n / c) = mul-le-mul_left c h in
    let e = mul_comm (n / c) c in
    omega arith

-- what both limits allow, each side allows
pub shared-left : (left right : ℕ → ℕ) (a b k : ℕ) → a * shared left right a b k ≤ left k
shared-left left right a b k = under a (left k) (shared left right a b k) (omega arith)

pub shared-right : (left right : ℕ → ℕ) (a b k : ℕ) → b * shared left right a b k ≤ right k
shared-right left right a b k = under b (right k) (shared left right a b k) (omega arith)

-- and what each side allows, both allow
pub shared-above : (left right : ℕ → ℕ) (a b k n : ℕ) → 1 ≤ a → 1 ≤ b → a * n ≤ left k → b * n ≤ right k → n ≤ shared left right a b k
shared-above left right a b k n x y l r =
    let p = le-div n (left k) a x (let e = mul_comm n a in omega arith) in
    let q = le-div n (right k) b y (let e = mul_comm n b in omega arith) in
    omega arith

pub shared-grows : (left right : ℕ → ℕ) (a b k n : ℕ) → 1 ≤ a → 1 ≤ b → left k ≤ left n → right k ≤ right n → shared left right a b k ≤ shared left right a b n
shared-grows left right a b k n x y l r =
    let p = div_grows (left k) (left n) a x l in
    let q = div_grows (right k) (right n) b y r in
    omega arith

pub shared-small : (left right : ℕ → ℕ) (a b k n : ℕ) → 1 ≤ a → left k ≤ n → shared left right a b k ≤ n
shared-small left right a b k n x h =
    let s = shared-left left right a b k in
    let m = mul-le-mul_left (shared left right a b k) x in
    let e = mul_comm (shared left right a b k) a in
    omega arith

pub times_zeros : (c n : ℕ) → times c (replicate n 0) ≡ replicate n 0
times_zeros c zero = refl
times_zeros c (suc n) = (λ i. mul-zero c i ∷ times_zeros c n i)
