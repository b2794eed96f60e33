-- A ring of any length, read from its newest order on.
use Rattle.std.proofs.Common.{◌≡◌, ℕ, zero, suc, ◌+◌, ◌-◌, ◌<◌, ◌≤◌, ◌≢◌, List, [], ◌∷◌, length, get_or, take, drop, set, sym, ap, ◌∙◌, ⊎_elim, add-zero, arith}
use Rattle.std.proofs.lemmas.List.{ext_get_or, length-append, length-drop, length-take, length-set, get_or_append_left, get_or-append_right, get_or-drop, get_or-take, get_or-set_same, get_or-set_other}
use Rattle.std.proofs.lemmas.Bool.{cases_lt}
use Rattle.supplier.specs.Books.{unrolled, BeforeNewest}

module _ (ring : List ℕ) (newest : ℕ) (inside : newest < length ring) where
  pub unrolled-length : length (unrolled ring newest) ≡ length ring
  unfolding unrolled
  unrolled-length =
      let a = length-append (drop newest ring) (take newest ring) in
      let b = length-drop newest ring in
      let c = length-take newest ring in
      omega arith

  -- the order of `back` days before the newest, before the ring comes round
  pub unrolled-near : (back : ℕ) → newest + back < length ring → get_or (unrolled ring newest) back 0 ≡ get_or ring (newest + back) 0
  unfolding unrolled
  unrolled-near back h =
      let b = length-drop newest ring in
      get_or_append_left (drop newest ring) (take newest ring) 0 back (omega arith) ∙ get_or-drop newest ring back 0

  -- and after it has come round
  pub unrolled-round : (back : ℕ) → length ring ≤ newest + back → back < length ring →
      get_or (unrolled ring newest) back 0 ≡ get_or ring ((newest + back) - length ring) 0
  unfolding unrolled
  unrolled-round back h l =
      let b = length-drop newest ring in
      let e : back - (length ring - newest) ≡ (newest + back) - length ring = omega arith in
      get_or-append_right (drop newest ring) (take newest ring) (length ring - newest) back 0 b (omega arith)
      ∙ ap (λ i. get_or (take newest ring) i 0) e
      ∙ get_or-take newest ring ((newest + back) - length ring) 0 (omega arith)

module _ (ring : List ℕ) (newest at q : ℕ) (inside : newest < length ring) (before : BeforeNewest (length ring) newest at) where
  place_inside : at < length ring
  place_inside =
      ⊎_elim (λ (h : newest < 1). let e = before.round (omega arith) in omega arith) (λ (h : 1 ≤ newest). let e = before.stepped h in omega arith)
      (cases_lt newest 1)

  written_inside : at < length (set ring at q)
  written_inside = let l = length-set ring at q in let p = place_inside in omega arith

  -- the order of i days before, which was that of i - 1 days before
  older : (i : ℕ) → suc i < length ring → get_or (unrolled (set ring at q) at) (suc i) 0 ≡ get_or (unrolled ring newest) i 0
  older i h =
      let l = length-set ring at q in
      let p = place_inside in
      ⊎_elim
      (λ (z : newest < 1).
      let r = before.round (omega arith) in
      let e : (at + suc i) - length (set ring at q) ≡ i = omega arith in
      let m : newest + i ≡ i = omega arith in
      let ne : i ≢ at = omega arith in
      unrolled-round (set ring at q) at written_inside (suc i) (omega arith) (omega arith)
      ∙ ap (λ j. get_or (set ring at q) j 0) e
      ∙ get_or-set_other ring at i q 0 ne
      ∙ ap (λ j. get_or ring j 0) (sym m)
      ∙ sym (unrolled-near ring newest inside i (omega arith)))
      (λ (z : 1 ≤ newest).
      let s = before.stepped z in
      ⊎_elim
      (λ (b : newest + i < length ring).
      let e : at + suc i ≡ newest + i = omega arith in
      let ne : newest + i ≢ at = omega arith in
      unrolled-near (set ring at q) at written_inside (suc i) (omega arith)
      ∙ ap (λ j. get_or (set ring at q) j 0) e
      ∙ get_or-set_other ring at (newest + i) q 0 ne
      ∙ sym (unrolled-near ring newest inside i b))
      (λ (b : length ring ≤ newest + i).
      let e : (at + suc i) - length (set ring at q) ≡ (newest + i) - length ring = omega arith in
      let ne : (newest + i) - length ring ≢ at = omega arith in
      unrolled-round (set ring at q) at written_inside (suc i) (omega arith) (omega arith)
      ∙ ap (λ j. get_or (set ring at q) j 0) e
      ∙ get_or-set_other ring at ((newest + i) - length ring) q 0 ne
      ∙ sym (unrolled-round ring newest inside i b (omega arith)))
      (cases_lt (newest + i) (length ring)))
      (cases_lt newest 1)

  latest : get_or (unrolled (set ring at q) at) 0 0 ≡ q
  latest =
      let l = length-set ring at q in
      let p = place_inside in
      unrolled-near (set ring at q) at written_inside 0 (omega arith)
      ∙ ap (λ j. get_or (set ring at q) j 0) (add-zero at)
      ∙ get_or-set_same ring at q 0 place_inside

  same_place : (i : ℕ) → i < length ring → get_or (unrolled (set ring at q) at) i 0 ≡ get_or (q ∷ unrolled ring newest) i 0
  same_place zero h = latest
  same_place (suc i) h = older i h

  -- an order written there becomes the newest, and the oldest is forgotten
  pub unrolled-set : unrolled (set ring at q) at ≡ take (length ring) (q ∷ unrolled ring newest)
  unrolled-set =
      let a = length-take (length ring) (q ∷ unrolled ring newest) in
      let b = unrolled-length ring newest inside in
      let c = length-set ring at q in
      let d = unrolled-length (set ring at q) at written_inside in
      ext_get_or 0 (unrolled (set ring at q) at) (take (length ring) (q ∷ unrolled ring newest)) (omega arith)
      (λ i h. same_place i (omega arith) ∙ sym (get_or-take (length ring) (q ∷ unrolled ring newest) i 0 (omega arith)))

-- amounts that are each at most b stay so where one at most b is written
pub set-small : (b : ℕ) (xs : List ℕ) (at q : ℕ) → ((i : ℕ) → get_or xs i 0 ≤ b) → q ≤ b → (i : ℕ) → get_or (set xs at q) i 0 ≤ b
set-small b [] at q h l i = h i
set-small b (x ∷ xs) zero q h l zero = l
set-small b (x ∷ xs) zero q h l (suc i) = h (suc i)
set-small b (x ∷ xs) (suc at) q h l zero = h 0
set-small b (x ∷ xs) (suc at) q h l (suc i) = set-small b xs at q (λ j. h (suc j)) l i
