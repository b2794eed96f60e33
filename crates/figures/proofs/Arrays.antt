-- What a closure that `from_fn` calls says of each element, where calls leave the closure as it was.
use Rattle.std.proofs.Common.{◌≡◌, ℕ, zero, suc, ◌+◌, ◌<◌, ◌≤◌, List, get_or, sym, subst, ⊎_elim, arith}
use Rattle.std.proofs.lemmas.Bool.{cases_lt}
use Rattle.std.specs.Array.{IsFromFnResultFrom}
use Rattle.std.specs.Fn.{Called}
use Rattle.std.specs.Iterator.Runs.{CallKeepsClosure}
use denote.Param.Members.{Mut}

pub from_fn_at : {F B : Type 0} {g : Mut F (ℕ × Unit {0}) B} {f : F} (ys : List B) → CallKeepsClosure g f → (i n : ℕ) → IsFromFnResultFrom g f ys i n →
    (k : ℕ) (d : B) → i ≤ k → k < i + n → Called g f (k, tt) (get_or ys k d) f
from_fn_at ys keeps i zero made k d from upto = absurd (omega arith)
from_fn_at {g = g} {f = f} ys keeps i (suc n) made k d from upto =
    let same = keeps (i, tt) made.1 made.0 made.3 in
    ⊎_elim (λ (l : i < k). from_fn_at ys keeps (i + 1) n (subst (λ q. IsFromFnResultFrom g q ys (i + 1) n) same made.4) k d (omega arith) (omega arith))
    (λ (l : k ≤ i).
    let e : i ≡ k = omega arith in
    let here = subst (λ y. Called g f (i, tt) y f) (sym (made.2.1 d)) (subst (λ q. Called g f (i, tt) made.1 q) same made.3) in
    subst (λ j. Called g f (j, tt) (get_or ys j d) f) e here)
    (cases_lt i k)
