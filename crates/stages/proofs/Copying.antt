-- The bounds of an envelope make a table of limits.
use Rattle.std.proofs.Common.{◌≡◌, ℕ, zero, suc, ◌+◌, ◌<◌, ◌≤◌, List, length, get_or, sym, ap, ◌∙◌, ⊎_elim, add-one, arith}
use Rattle.std.proofs.lemmas.List.{get_or_past}
use Rattle.std.proofs.lemmas.Bool.{cases_lt}
use Rattle.figures.specs.Days.{horizon}
use Rattle.envelope.specs.Curves.{Curve, Lawful}
use Rattle.supplier.specs.Limits.{High, Grows}
use Rattle.stages.specs.StageMaking.{Copies}

module _ (c : Curve) (lawful : Lawful c) (table : List ℕ) (wide : length table ≡ horizon)
    (steps : (i : ℕ) → i < horizon → get_or table i 0 ≡ c.bound (i + 1)) where
  pub copies : Copies c.bound table
  copies zero h = sym lawful.zero
  copies (suc k) h = steps k h ∙ ap c.bound (add-one k)

  pub copies_high : High table
  copies_high i =
      ⊎_elim (λ (l : i < horizon). let e = steps i l in let h = lawful.high (i + 1) (omega arith) in omega arith)
      (λ (l : horizon ≤ i). let e = get_or_past table i 0 (omega arith) in omega arith)
      (cases_lt i horizon)

  pub copies_grow : Grows table
  copies_grow i h =
      let a = steps i (omega arith) in
      let b = steps (i + 1) h in
      let g = lawful.grows (i + 1) h in
      omega arith
