-- A line that begins with two bytes and a space.
use Rattle.std.proofs.Common.{◌≡◌, ℕ, ◌-◌, ◌≤◌, List, [], ◌∷◌, length, get_or, take, drop, sym, arith}
use Rattle.std.proofs.lemmas.List.{take_all}

pub begins : (line : List ℕ) (a b : ℕ) → 3 ≤ length line → get_or line 0 0 ≡ a → get_or line 1 0 ≡ b → get_or line 2 0 ≡ 32 →
    line ≡ a ∷ b ∷ 32 ∷ take (length line - 3) (drop 3 line)
begins [] a b h e f s = absurd (omega arith)
begins (x ∷ []) a b h e f s = absurd (omega arith)
begins (x ∷ y ∷ []) a b h e f s = absurd (omega arith)
begins (x ∷ y ∷ z ∷ line) a b h e f s =
    let l : length line ≤ length (x ∷ y ∷ z ∷ line) - 3 = omega arith in
    (λ i. e i ∷ f i ∷ s i ∷ sym (take_all (length (x ∷ y ∷ z ∷ line) - 3) line l) i)
