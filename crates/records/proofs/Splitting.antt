-- A text falls into words in one way only, so a record's line writes that record and no other.
use Rattle.std.proofs.Common.{◌≡◌, ℕ, suc, ◌^◌, ◌<◌, ◌≤◌, List, [], ◌∷◌, ◌++◌, length, get_or, decimal, sym, refl, ◌∙◌, append-nil, arith}
use Rattle.std.proofs.lemmas.Fmt.{decimal_injective}
use Rattle.records.specs.Numerals.{most_digits}
use Rattle.records.specs.Words.{Lacks}
use Rattle.records.specs.Fields.{Ended, figures_text, led}
use Rattle.records.proofs.Spelling.{shape_decimal}

-- two words that begin one text, each up to a space or the end, are one word
pub next_word : (a b x y : List ℕ) → Lacks 32 a → Lacks 32 b → Ended x → Ended y → a ++ x ≡ b ++ y → (a ≡ b) × (x ≡ y)
next_word [] [] x y la lb ex ey e = (refl, e)
next_word [] (b ∷ bs) [] y la lb ex ey e = absurd (let z : ◌≡◌ {A = ℕ} 0 1 = cc in omega arith)
next_word [] (b ∷ bs) (c ∷ x) y la lb ex ey e = absurd (lb 0 (omega arith) (let h : b ≡ 32 = cc in h))
next_word (a ∷ as') [] x [] la lb ex ey e = absurd (let z : ◌≡◌ {A = ℕ} 0 1 = cc in omega arith)
next_word (a ∷ as') [] x (c ∷ y) la lb ex ey e = absurd (la 0 (omega arith) (let h : a ≡ 32 = cc in h))
next_word (a ∷ as') (b ∷ bs) x y la lb ex ey e =
    let same : a ≡ b = cc in
    let rest : as' ++ x ≡ bs ++ y = cc in
    let r = next_word as' bs x y (λ i h. la (suc i) (omega arith)) (λ i h. lb (suc i) (omega arith)) ex ey rest in
    ((λ i. same i ∷ r.0 i), r.1)

-- a number's digits have no space
pub no_space : (n : ℕ) → n < 10 ^ most_digits → Lacks 32 (decimal n)
no_space n small i h e = let d = (shape_decimal n small).digits i h in omega arith

-- what follows the first of some figures
abbrev pub tail_of : List ℕ → List ℕ
tail_of [] = []
tail_of (g ∷ gs) = 32 ∷ figures_text (g ∷ gs)

pub tail-ended : (fs : List ℕ) → Ended (tail_of fs)
tail-ended [] = tt
tail-ended (g ∷ gs) = refl

text_first : (f : ℕ) (fs : List ℕ) → figures_text (f ∷ fs) ≡ decimal f ++ tail_of fs
text_first f [] = sym (append-nil (decimal f))
text_first f (g ∷ gs) = refl

abbrev pub Small : List ℕ → Type 0
Small fs = (i : ℕ) → i < length fs → get_or fs i 0 < 10 ^ most_digits

pub same_number : (m n : ℕ) → m < 10 ^ most_digits → n < 10 ^ most_digits → decimal m ≡ decimal n → m ≡ n
same_number m n a b e = decimal_injective m n (omega arith) (omega arith) e

-- the first figures of one text are one figure, and so are the texts after them
first-same : (f g : ℕ) (fs gs : List ℕ) → Small (f ∷ fs) → Small (g ∷ gs) → figures_text (f ∷ fs) ≡ figures_text (g ∷ gs) → (f ≡ g) × (tail_of fs ≡ tail_of gs)
first-same f g fs gs a b e =
    let small : f < 10 ^ most_digits = a 0 (omega arith) in
    let small' : g < 10 ^ most_digits = b 0 (omega arith) in
    let w = next_word (decimal f) (decimal g) (tail_of fs) (tail_of gs) (no_space f small) (no_space g small') (tail-ended fs) (tail-ended gs)
    (sym (text_first f fs) ∙ e ∙ text_first g gs) in
    (same_number f g small small' w.0, w.1)

-- figures are told by their text
pub text_same : (fs gs : List ℕ) → Small fs → Small gs → 1 ≤ length fs → 1 ≤ length gs → figures_text fs ≡ figures_text gs → fs ≡ gs
text_same [] gs a b s t e = absurd (omega arith)
text_same (f ∷ fs) [] a b s t e = absurd (omega arith)
text_same (f ∷ []) (g ∷ []) a b s t e = let w = first-same f g [] [] a b e in (λ i. w.0 i ∷ [])
text_same (f ∷ []) (g ∷ k ∷ gs) a b s t e = let w = first-same f g [] (k ∷ gs) a b e in absurd (let z : ◌≡◌ {A = ℕ} 0 1 = cc w.1 in omega arith)
text_same (f ∷ h ∷ fs) (g ∷ []) a b s t e = let w = first-same f g (h ∷ fs) [] a b e in absurd (let z : ◌≡◌ {A = ℕ} 0 1 = cc w.1 in omega arith)
text_same (f ∷ h ∷ fs) (g ∷ k ∷ gs) a b s t e =
    let w = first-same f g (h ∷ fs) (k ∷ gs) a b e in
    let rest : figures_text (h ∷ fs) ≡ figures_text (k ∷ gs) = cc w.1 in
    let r = text_same (h ∷ fs) (k ∷ gs) (λ i l. a (suc i) (omega arith)) (λ i l. b (suc i) (omega arith)) (omega arith) (omega arith) rest in
    (λ i. w.0 i ∷ r i)

-- figures that end with a space are the first of all figures, and what follows is the text of the others
pub record Leads (fs before text : List ℕ) : Type 0 where
  pub next : ℕ
  pub others : List ℕ
  pub whole : fs ≡ before ++ next ∷ others
  pub left : text ≡ decimal next ++ tail_of others

pub leads : (fs before text : List ℕ) → Small fs → Small before → 1 ≤ length fs → figures_text fs ≡ led before text → Leads fs before text
leads [] before text a b s e = absurd (omega arith)
leads (f ∷ fs) [] text a b s e = record { next = f; others = fs; whole = refl; left = sym e ∙ text_first f fs }
leads (f ∷ []) (g ∷ before) text a b s e =
    let small = a 0 (omega arith) in
    let small' = b 0 (omega arith) in
    let w = next_word (decimal f) (decimal g) [] (32 ∷ led before text) (no_space f small) (no_space g small') tt refl (append-nil (decimal f) ∙ e) in
    absurd (let z : ◌≡◌ {A = ℕ} 0 1 = cc in omega arith)
leads (f ∷ h ∷ fs) (g ∷ before) text a b s e =
    let small = a 0 (omega arith) in
    let small' = b 0 (omega arith) in
    let w = next_word (decimal f) (decimal g) (32 ∷ figures_text (h ∷ fs)) (32 ∷ led before text) (no_space f small) (no_space g small') refl refl e in
    let same = same_number f g small small' w.0 in
    let rest : figures_text (h ∷ fs) ≡ led before text = cc in
    let r = leads (h ∷ fs) before text (λ i l. a (suc i) (omega arith)) (λ i l. b (suc i) (omega arith)) (omega arith) rest in
    record { next = r.next; others = r.others; whole = (λ i. same i ∷ r.whole i); left = r.left }
