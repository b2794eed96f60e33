-- What `any` over a range and `find` over a range with its end say of the numbers in it.
use Rattle.std.proofs.Common.{◌≡◌, ℕ, ◌+◌, ◌-◌, ◌<◌, ◌≤◌, Bool, true, false, Some, None, Option, MatchBool, MatchOption, IfSome, IsSomeAnd, subst, sym, refl, ap, ◌∙◌, option_map, arith}
use Rattle.std.specs.Iterator.Runs.{Run, SomeRun, ItemsCountUp, AnyItemGives, AllItemsGive, NoItemPasses, EndsAtFirstPassing, CallKeepsClosure}
use Rattle.std.specs.Fn.{Called, CalledAt}
use Rattle.std.specs.Range.{range_inclusive_start, range_inclusive_end, range_inclusive_exhausted}
use Rattle.std.specs.declared.ops.Range.{Range}
use Rattle.std.specs.declared.ops.RangeInclusive.{RangeInclusive}
use Rattle.std.proofs.iter.Yields.{nat_range_steps}
use Rattle.std.proofs.iter.runs.Sources.{nat_range_inclusive_steps, range_listed, inclusive_listed}
use denote.Param.Members.{Mut}
use denote.Ref.{Bor}

-- what holds of the item of a place holds of its number
of_item : (P : ℕ → Type 0) (o : Option ℕ) (x : ℕ) → option_map (λ y. y) o ≡ Some x → IfSome o P → P x
of_item P None x e h = absurd (cc)
of_item P (Some y) x e h = let s : y ≡ x = cc in subst P s h

-- what holds of some item
some_item : (P : ℕ → Type 0) (o : Option ℕ) → IsSomeAnd o P → IfSome o P
some_item P None h = elim h [ ]
some_item P (Some y) h = h

module _ {S : Type 0} {steps : S → Option ℕ → S → Type 0} (p : Run steps) (a b : ℕ) where
  -- the same count between numbers that are equal
  counts_same : (x y : ℕ) → x ≡ a → y ≡ b → ItemsCountUp p x y → ItemsCountUp p a b
  counts_same x y d e counts = subst (λ m. ItemsCountUp p m b) d (subst (λ n. ItemsCountUp p x n) e counts)

  -- the item of a number
  at_number : ItemsCountUp p a b → (i : ℕ) → a ≤ i → i - a < p.len → option_map (λ y. y) (p.at (i - a)) ≡ Some i
  at_number counts i from l =
      let e : a + (i - a) ≡ i = omega arith in
      subst (λ n. option_map (λ y. y) (p.at (i - a)) ≡ Some n) e (counts.3 (i - a) l)

  any_counted : {F : Type 0} {g : Mut F (ℕ × Unit {0}) Bool} {f : F} → ItemsCountUp p a b →
      (r : Bool) → MatchBool r (AnyItemGives p g f true) ((p.whole ≡ true) × AllItemsGive p g f false) →
      (Hit Miss : ℕ → Type 0) → CallKeepsClosure g f → ((x : ℕ) → Called g f (x, tt) true f → Hit x) → ((x : ℕ) → Called g f (x, tt) false f → Miss x) →
      MatchBool r ((i : ℕ) × (a ≤ i) × (i < b) × Hit i) ((i : ℕ) → a ≤ i → i < b → Miss i)
  any_counted {g = g} {f = f} counts true told Hit Miss keeps hit miss =
      let found = told keeps in
      let P = λ (x : ℕ). Called g f (x, tt) true f in
      let e = counts.3 found.0 found.1 in
      (a + found.0, omega arith, omega (arith, counts.0), hit (a + found.0) (of_item P (p.at found.0) (a + found.0) e (some_item P (p.at found.0) found.2)))
  any_counted {g = g} {f = f} counts false told Hit Miss keeps hit miss =
      λ i from upto.
      let l : i - a < p.len = omega (arith, counts.1 told.0) in
      miss i (of_item (λ x. Called g f (x, tt) false f) (p.at (i - a)) i (at_number counts i from l) (told.1 keeps (i - a)))

  find_counted : {F : Type 0} {g : Mut F (Bor ℕ × Unit {0}) Bool} {f : F} → ItemsCountUp p a b →
      (r : Option ℕ) → MatchOption r ((p.whole ≡ true) × NoItemPasses p g f) (EndsAtFirstPassing p g f) →
      (Hit Miss : ℕ → Type 0) → CallKeepsClosure g f → ((x : ℕ) → CalledAt g f x true f → Hit x) → ((x : ℕ) → CalledAt g f x false f → Miss x) →
      MatchOption r ((i : ℕ) → a ≤ i → i < b → Miss i) (λ x. (a ≤ x) × (x < b) × Hit x × ((i : ℕ) → a ≤ i → i < x → Miss i))
  find_counted {g = g} {f = f} counts None told Hit Miss keeps hit miss =
      λ i from upto.
      let l : i - a < p.len = omega (arith, counts.1 told.0) in
      miss i (of_item (λ x. CalledAt g f x false f) (p.at (i - a)) i (at_number counts i from l) (told.1 keeps (i - a)))
  find_counted {g = g} {f = f} counts (Some x) told Hit Miss keeps hit miss =
      let n = told.0 in
      let l : n < p.len = omega (arith, told.1) in
      let e : x ≡ a + n = of_item (λ y. x ≡ y) (p.at n) (a + n) (counts.3 n l) (subst (λ o. IfSome o (λ y. x ≡ y)) (sym told.2) refl) in
      let P = λ (y : ℕ). CalledAt g f y false f in
      let before = (told.3 keeps).1 in (
        omega arith,
        omega (arith, counts.0),
        hit x (told.3 keeps).0,
        λ i from upto.
            let k : i - a < n = omega arith in
            miss i (of_item P (p.at (i - a)) i (at_number counts i from (omega arith)) (some_item P (p.at (i - a)) (before (i - a) k))),
      )

-- `any` over `a..b`
pub any_in_range : {F : Type 0} {g : Mut F (ℕ × Unit {0}) Bool} {f : F} (a b : ℕ) (r : Bool) →
    SomeRun nat_range_steps (record { start = a; end = b }) (λ p. MatchBool r (AnyItemGives p g f true) ((p.whole ≡ true) × AllItemsGive p g f false)) →
    (Hit Miss : ℕ → Type 0) → CallKeepsClosure g f → ((x : ℕ) → Called g f (x, tt) true f → Hit x) → ((x : ℕ) → Called g f (x, tt) false f → Miss x) →
    MatchBool r ((i : ℕ) × (a ≤ i) × (i < b) × Hit i) ((i : ℕ) → a ≤ i → i < b → Miss i)
any_in_range a b r run Hit Miss keeps hit miss =
    let listed = range_listed run.0 run.0.seen in
    let counts = counts_same run.0 a b listed.0 listed.1 (listed.2 ∙ ap (λ (s : Range ℕ). s.start) run.1) (listed.3 ∙ ap (λ (s : Range ℕ). s.end) run.1) listed.4 in
    any_counted run.0 a b counts r run.2 Hit Miss keeps hit miss

-- `find` over `a..=b`
pub find_through_range : {F : Type 0} {g : Mut F (Bor ℕ × Unit {0}) Bool} {f : F} (a b : ℕ) (s : RangeInclusive ℕ) →
    range_inclusive_start s ≡ a → range_inclusive_end s ≡ b → range_inclusive_exhausted s ≡ false → (r : Option ℕ) →
    SomeRun nat_range_inclusive_steps s (λ p. MatchOption r ((p.whole ≡ true) × NoItemPasses p g f) (EndsAtFirstPassing p g f)) →
    (Hit Miss : ℕ → Type 0) → CallKeepsClosure g f →
    ((x : Bor ℕ) → Called g f (x, tt) true f → Hit x.now) → ((x : Bor ℕ) → Called g f (x, tt) false f → Miss x.now) →
    MatchOption r ((i : ℕ) → a ≤ i → i < b + 1 → Miss i) (λ x. (a ≤ x) × (x < b + 1) × Hit x × ((i : ℕ) → a ≤ i → i < x → Miss i))
find_through_range a b s from upto fresh r run Hit Miss keeps hit miss =
    let listed = inclusive_listed run.0 run.0.seen in
    let start = listed.2 ∙ ap range_inclusive_start run.1 ∙ from in
    let end = listed.3 ∙ ap (λ (t : RangeInclusive ℕ). range_inclusive_end t + 1) run.1 ∙ ap (λ n. n + 1) upto in
    let counts = counts_same run.0 a (b + 1) listed.0 listed.1 start end (listed.4 (ap range_inclusive_exhausted run.1 ∙ fresh)).0 in
    find_counted run.0 a (b + 1) counts r run.2 Hit Miss keeps (λ x h. subst Hit h.shows (hit h.shown h.called)) (λ x h. subst Miss h.shows (miss h.shown h.called))
