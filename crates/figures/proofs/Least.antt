-- What the least number that passes a test is, and when there is none.
use Rattle.std.proofs.Common.{◌≡◌, ℕ, zero, suc, ◌+◌, ◌<◌, ◌≤◌, Bool, true, false, cond, Some, None, sym, refl, ap, ◌∙◌, ⊎_elim, arith}
use Rattle.std.proofs.lemmas.Bool.{cases_eq}
use Rattle.figures.specs.Least.{least}

-- some value is not none
pub some-none : {X : Type 0} (x : X) → Some x ≡ None → ⊥
some-none x e = let z : ◌≡◌ {A = ℕ} 0 1 = cc in omega arith

-- where a number passes and none before it does, it is the least
pub least_found : (test : ℕ → Bool) (k n m : ℕ) → k ≤ m → m < k + n → test m ≡ true →
    ((j : ℕ) → k ≤ j → j < m → test j ≡ false) → least test k n ≡ Some m
least_found test k zero m a b t before = absurd (omega arith)
least_found test k (suc n) m a b t before =
    ⊎_elim
    (λ (e : k ≡ m). let p : test k ≡ true = ap test e ∙ t in ap (λ x. cond x (Some k) (least test (suc k) n)) p ∙ ap Some e)
    (λ (e : k ≡ m → ⊥).
    let l : k < m = omega (arith, e) in
    ap (λ x. cond x (Some k) (least test (suc k) n)) (before k (omega arith) l)
    ∙ least_found test (suc k) n m (omega arith) (omega arith) t (λ j g h. before j (omega arith) h))
    (cases_eq k m)

-- where no number passes, there is none
pub least_absent : (test : ℕ → Bool) (k n : ℕ) → ((j : ℕ) → k ≤ j → j < k + n → test j ≡ false) → least test k n ≡ None
least_absent test k zero h = refl
least_absent test k (suc n) h =
    ap (λ x. cond x (Some k) (least test (suc k) n)) (h k (omega arith) (omega arith))
    ∙ least_absent test (suc k) n (λ j a b. h j (omega arith) (omega arith))

-- what the least number shows
pub record Found (test : ℕ → Bool) (k n m : ℕ) : Type 0 where
  pub from : k ≤ m
  pub upto : m < k + n
  pub passes : test m ≡ true
  pub first : (j : ℕ) → k ≤ j → j < m → test j ≡ false

pub least_shows : (test : ℕ → Bool) (k n m : ℕ) → least test k n ≡ Some m → Found test k n m
least_shows test k zero m e = absurd (some-none m (sym e))
least_shows test k (suc n) m e = go (test k) refl e (least_shows test (suc k) n m)
  where
    go : (b : Bool) → test k ≡ b → cond b (Some k) (least test (suc k) n) ≡ Some m →
        (least test (suc k) n ≡ Some m → Found test (suc k) n m) → Found test k (suc n) m
    go true p e later =
        let s : k ≡ m = cc in
        record { from = omega arith; upto = omega arith; passes = ap test (sym s) ∙ p; first = λ j a b. absurd (omega arith) }
    go false p e later =
        let r = later e in
        record {
          from = omega arith;
          upto = omega arith;
          passes = r.passes;
          first = λ j a b. ⊎_elim (λ (s : k ≡ j). ap test (sym s) ∙ p) (λ (s : k ≡ j → ⊥). r.first j (omega (arith, s)) b) (cases_eq k j);
        }

-- that there is none shows that none passes
pub absent_shows : (test : ℕ → Bool) (k n : ℕ) → least test k n ≡ None → (j : ℕ) → k ≤ j → j < k + n → test j ≡ false
absent_shows test k zero e j a b = absurd (omega arith)
absent_shows test k (suc n) e j a b = go (test k) refl e (absent_shows test (suc k) n) j a b
  where
    go : (b : Bool) → test k ≡ b → cond b (Some k) (least test (suc k) n) ≡ None →
        (least test (suc k) n ≡ None → (j : ℕ) → suc k ≤ j → j < suc k + n → test j ≡ false) →
        (j : ℕ) → k ≤ j → j < k + suc n → test j ≡ false
    go true p e later j a b = absurd (some-none k e)
    go false p e later j a b =
        ⊎_elim (λ (s : k ≡ j). ap test (sym s) ∙ p) (λ (s : k ≡ j → ⊥). later e j (omega (arith, s)) (omega arith)) (cases_eq k j)

-- tests that agree have the same least number
pub least_agree : (f g : ℕ → Bool) (k n : ℕ) → ((j : ℕ) → k ≤ j → j < k + n → f j ≡ g j) → least f k n ≡ least g k n
least_agree f g k zero h = refl
least_agree f g k (suc n) h =
    ap (λ x. cond x (Some k) (least f (suc k) n)) (h k (omega arith) (omega arith))
    ∙ ap (λ r. cond (g k) (Some k) r) (least_agree f g (suc k) n (λ j a b. h j (omega arith) (omega arith)))
