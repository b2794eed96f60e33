use Rattle.std.proofs.Common.{◌≡◌, ◌-◌, ◌<◌, ◌≤◌, length, get_or, MatchBool, ap, ◌∙◌, subst, ⊎_elim, arith, below_more}
use Rattle.std.specs.Int.{IsInRange, IsOutOfRange}
use Rattle.std.specs.Str.Parse.{digits_value}
use Rattle.std.proofs.lemmas.List.{take_all}
use Rattle.records.proofs.Spelling.{writes_shape, shape_writes, one_more, few-small, one-more-small, zero_none, long_none, empty_none}
use Rattle.records.proofs.numerals.number.Goals as goal
use Rattle.records.proofs.numerals.number.Goals.{in_default, in_default-2}

pub returns-then-not-is_ascii_digit : goal.returns-then-not-is_ascii_digit
returns-then-not-is_ascii_digit c n w =
    let x = get_or c.args.word.now c.loop-digit.digit-index 0 in
    let s = writes_shape c.args.word.now n w in
    let d = s.digits c.loop-digit.digit-index (omega arith) in
    ⊎_elim (λ (l : x < 48). omega arith) (λ (l : 57 < x). omega arith)
    (subst (λ b. MatchBool b (IsInRange 48 57 x) (IsOutOfRange 48 57 x)) c.if-not-is_ascii_digit.true c.is_ascii_digit.ensures.cases)

pub overflow_mul-n : goal.overflow_mul-n
overflow_mul-n c = let l = few-small c.loop-digit.digit-index c.loop-digit.n (omega arith) c.loop-digit.invariant.1 in omega arith

pub overflow_add-n : goal.overflow_add-n
overflow_add-n c = let l = few-small c.loop-digit.digit-index c.loop-digit.n (omega arith) c.loop-digit.invariant.1 in omega arith

pub loop-digit-preserved : goal.loop-digit-preserved
loop-digit-preserved c =
    let w = c.args.word.now in
    let i = c.loop-digit.digit-index in
    let n = c.loop-digit.n in
    let d = get_or w i 0 in
    let h : i < length w = omega arith in
    let k : IsInRange 48 57 d = subst (λ b. MatchBool b (IsInRange 48 57 d) (IsOutOfRange 48 57 d)) c.if-not-is_ascii_digit.false c.is_ascii_digit.ensures.cases in
    let more = one_more w i n h c.loop-digit.invariant.0 k.0 k.1 in
    let small = one-more-small i n (d - 48) c.loop-digit.invariant.1 (omega (arith, k.1)) in (
      omega (arith, c.from.ensures, more),
      omega (arith, c.from.ensures, small),
      below_more _ i c.loop-digit.invariant.2 k,
    )

pub returns : goal.returns
returns c =
    let w = c.args.word.now in
    let all = take_all c.loop-digit.digit-index w (omega arith) in
    let looks : (1 ≤ length w) × (get_or w 0 0 ≡ 48 → length w ≡ 1) =
    elim c.if-word-lt2.branch [ in_default b ↦ let h = b.in_default in (omega arith, λ e. omega arith) | in_default-2 b ↦ let h = b.in_default in (omega arith, λ e. omega arith) ] in
    shape_writes w c.loop-digit.n (record { some = looks.0; few = omega arith; lean = looks.1; digits = λ j h. c.loop-digit.invariant.2 j (omega arith) }) (c.loop-digit.invariant.0 ∙ ap (digits_value 10) all)

pub returns-in-empty : goal.returns-in-empty
returns-in-empty c = empty_none c.args.word.now (omega arith)

pub returns-in-empty-2 : goal.returns-in-empty-2
returns-in-empty-2 c = zero_none c.args.word.now (omega arith) c.in-empty.len_at_least

pub returns-then-word-gt-MOST_DIGITS : goal.returns-then-word-gt-MOST_DIGITS
returns-then-word-gt-MOST_DIGITS c = long_none c.args.word.now c.if-word-gt-MOST_DIGITS.true
