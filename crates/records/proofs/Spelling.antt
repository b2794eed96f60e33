-- The words that write numbers: their digits, and their values.
use Rattle.std.proofs.Common.{◌≡◌, ℕ, ◌+◌, ◌-◌, ◌*◌, ◌^◌, ◌<◌, ◌≤◌, List, length, get_or, take, decimal, sym, ap, ◌∙◌, subst, ⊎_elim, pow-suc, add-one, arith}
use native.Mathlib.Nat.{pow-le-pow_right}
use Rattle.std.specs.Int.{IsInRange}
use Rattle.std.specs.Char.{digit_value}
use Rattle.std.specs.Str.Parse.{digits_value}
use Rattle.std.proofs.lemmas.Fmt.{decimal_is_IsNumeral, decimal_nonempty, decimal_digit, length-decimal-le, first_decimal, decimal-digits_value}
use Rattle.std.proofs.lemmas.Int.Digits.{digits_value_more}
use Rattle.std.proofs.lemmas.Str.Parse.{IsNumeralModel, numerals_by_value, tells_by_index, digit_at, digits_value_short}
use Rattle.std.proofs.lemmas.Bool.{cases_lt, cond-true, cond-false, lt-ltb, le-ltb}
use Rattle.records.specs.Numerals.{Writes, IsNoNumber, most_digits}

-- what a word that writes a number looks like
pub record Shape (w : List ℕ) : Type 0 where
  pub some : 1 ≤ length w
  pub few : length w ≤ most_digits
  pub lean : get_or w 0 0 ≡ 48 → length w ≡ 1
  pub digits : (i : ℕ) → i < length w → IsInRange 48 57 (get_or w i 0)

own : IsNumeralModel (λ ds. (i : ℕ) → i < length ds → IsInRange 48 57 (get_or ds i 0)) (digits_value 10)
own = numerals_by_value _ tells_by_index

pub shape_decimal : (n : ℕ) → n < 10 ^ most_digits → Shape (decimal n)
shape_decimal n small =
    let wide : n < 2 ^ 64 = omega arith in
    record {
      some = decimal_nonempty n wide;
      few = length-decimal-le most_digits n (omega arith) small wide;
      lean = λ e.
          ⊎_elim (λ (l : 0 < n). absurd (let f = first_decimal n l wide in omega arith))
          (λ (l : n ≤ 0). ap length (decimal_digit n (omega arith)))
          (cases_lt 0 n);
      digits = λ i h. digit_at (decimal n) i (decimal_is_IsNumeral n wide).0.1 h;
    }

-- a word of another look writes no number
pub writes_shape : (w : List ℕ) (n : ℕ) → Writes w n → Shape w
writes_shape w n (small, e) = subst Shape (sym e) (shape_decimal n small)

-- and one of this look writes its value
pub shape_writes : (w : List ℕ) (n : ℕ) → Shape w → n ≡ digits_value 10 w → Writes w n
shape_writes w n s e =
    let v = digits_value_short own w most_digits s.digits s.few in
    let d = decimal-digits_value own w s.digits s.some s.lean (omega arith) in
    (omega arith, sym (ap decimal e ∙ d))

-- a word that begins with a plus writes no number, nor does one with a needless leading 0
pub plus_none : (w : List ℕ) → get_or w 0 0 ≡ 43 → IsNoNumber w
plus_none w e n h =
    let s = writes_shape w n h in
    let a = s.some in
    let d = s.digits 0 (omega arith) in
    omega arith

pub zero_none : (w : List ℕ) → get_or w 0 0 ≡ 48 → 2 ≤ length w → IsNoNumber w
zero_none w e long n h = let l = (writes_shape w n h).lean e in omega arith

-- nor one with no digit, or with too many
pub empty_none : (w : List ℕ) → length w < 1 → IsNoNumber w
empty_none w h n e = let s = (writes_shape w n e).some in omega arith

pub long_none : (w : List ℕ) → most_digits < length w → IsNoNumber w
long_none w long n h = let f = (writes_shape w n h).few in omega arith

-- a digit's value
digit_value_lem : (c : ℕ) → 48 ≤ c → c ≤ 57 → digit_value c ≡ c - 48
digit_value_lem c a b = cond-false _ _ _ (le-ltb c 48 a) ∙ cond-true _ _ _ (lt-ltb c 58 (omega arith))

-- one more digit
pub one_more : (w : List ℕ) (i n : ℕ) → i < length w → n ≡ digits_value 10 (take i w) → 48 ≤ get_or w i 0 → get_or w i 0 ≤ 57 →
    10 * n + (get_or w i 0 - 48) ≡ digits_value 10 (take (i + 1) w)
one_more w i n h e a b =
    let m = digits_value_more 10 w i h in
    let d = digit_value_lem (get_or w i 0) a b in
    omega arith

-- a number of so few digits is small
pub few-small : (i n : ℕ) → i < most_digits → n < 10 ^ i → n < 10 ^ (most_digits - 1)
few-small i n h s = let l : i ≤ most_digits - 1 = omega arith in let p = pow-le-pow_right {n = 10} (omega arith) l in omega arith

pub one-more-small : (i n d : ℕ) → n < 10 ^ i → d ≤ 9 → 10 * n + d < 10 ^ (i + 1)
one-more-small i n d s h = let p = pow-suc 10 i in rw add-one (omega arith)
