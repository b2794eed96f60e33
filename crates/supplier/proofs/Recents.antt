-- The orders of the last days are those of the whole list, as far back as they reach.
use Rattle.std.proofs.Common.{◌≡◌, ℕ, zero, suc, ◌+◌, ◌-◌, ◌<◌, ◌≤◌, List, [], ◌∷◌, ◌++◌, length, get_or, drop, replicate, sym, refl, ◌∙◌, ⊎_elim, arith}
use Rattle.std.proofs.lemmas.List.{ext_get_or, get_or_past, get_or-take, get_or-drop, get_or_append_left, get_or-append_right, length-take, length-append, length-replicate}
use Rattle.std.proofs.lemmas.Bool.{cases_lt}
use Rattle.figures.specs.Days.{window, span, pushed}
use Rattle.figures.proofs.Totals.{window_agree, zeros_get, pushed-length}
use Rattle.supplier.specs.Orders.{recent, due}

module _ (n : ℕ) (orders : List ℕ) where
  pub recent-length : length (recent n orders) ≡ n
  unfolding recent
  recent-length =
      let a = length-take n (orders ++ replicate n 0) in
      let b = length-append orders (replicate n 0) in
      let c = length-replicate {A = ℕ} n 0 in
      omega arith

  pub recent-get : (j : ℕ) → j < n → get_or (recent n orders) j 0 ≡ get_or orders j 0
  unfolding recent
  recent-get j h =
      get_or-take n (orders ++ replicate n 0) j 0 h
      ∙ ⊎_elim (λ (l : j < length orders). get_or_append_left orders (replicate n 0) 0 j l)
      (λ (l : length orders ≤ j). get_or-append_right orders (replicate n 0) (length orders) j 0 refl l ∙ zeros_get n (j - length orders) ∙ sym (get_or_past orders j 0 l))
      (cases_lt j (length orders))

  -- also under the order of today
  pub due-recent : (q quote : ℕ) → quote ≤ n → due quote (recent n orders) q ≡ due quote orders q
  due-recent q zero h = refl
  due-recent q (suc j) h = recent-get j h

  pub window-recent : (q k : ℕ) → k ≤ n → window k (q ∷ recent n orders) ≡ window k (q ∷ orders)
  window-recent q k h = window_agree k (q ∷ recent n orders) (q ∷ orders) (λ j l. due-recent q j (omega arith))

  pub span-recent : (upto from : ℕ) → upto ≤ from → from ≤ n → span upto from (recent n orders) ≡ span upto from orders
  span-recent upto from a b =
      window_agree (from - upto) (drop upto (recent n orders)) (drop upto orders)
      (λ j l. get_or-drop upto (recent n orders) j 0 ∙ recent-get (upto + j) (omega arith) ∙ sym (get_or-drop upto orders j 0))

-- one more order
pub recent-more : (n q : ℕ) (orders : List ℕ) → pushed n q (recent n orders) ≡ recent n (q ∷ orders)
recent-more n q orders =
    ext_get_or 0 (pushed n q (recent n orders)) (recent n (q ∷ orders))
    (pushed-length n q (recent n orders) (recent-length n orders) ∙ sym (recent-length n (q ∷ orders)))
    (λ j h.
    let l : j < n = let p = pushed-length n q (recent n orders) (recent-length n orders) in omega arith in
    get_or-take n (q ∷ recent n orders) j 0 l ∙ due-recent n orders q j (omega arith) ∙ sym (recent-get n (q ∷ orders) j l))

-- no order before day 1
pub recent-none : (n : ℕ) → recent n [] ≡ replicate n 0
recent-none n =
    ext_get_or 0 (recent n []) (replicate n 0) (recent-length n [] ∙ sym (length-replicate {A = ℕ} n 0))
    (λ j h. let l : j < n = let p = recent-length n [] in omega arith in recent-get n [] j l ∙ sym (zeros_get n j))
