-- Words one space apart, one word longer.
use Rattle.std.proofs.Common.{◌≡◌, ℕ, List, [], ◌∷◌, ◌++◌, refl, ap, ◌∙◌, append_assoc}
use Rattle.printed.specs.Texts.{spaced}

pub spaced-push : (w : List ℕ) (ws : List (List ℕ)) (v : List ℕ) → spaced w ws ++ 32 ∷ v ≡ spaced w (ws ++ v ∷ [])
spaced-push w [] v = refl
spaced-push w (x ∷ ws) v = append_assoc w (32 ∷ spaced x ws) (32 ∷ v) ∙ ap (λ (t : List ℕ). w ++ 32 ∷ t) (spaced-push x ws v)
