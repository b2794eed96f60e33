-- A table with the same limit for every window is a table of limits.
use Rattle.std.proofs.Common.{◌≡◌, ℕ, zero, suc, ◌+◌, ◌<◌, ◌≤◌, get_or, replicate, refl, zero-le, arith}
use Rattle.std.proofs.lemmas.List.{get_or-replicate}
use Rattle.figures.specs.Days.{horizon}
use Rattle.boundaries.proofs.books.last_window_broken.Goals as goal

level : (n x i : ℕ) → get_or (replicate n x) i 0 ≤ x
level zero x i = zero-le
level (suc n) x zero = omega arith
level (suc n) x (suc i) = level n x i

flat : (n x i : ℕ) → i + 1 < n → get_or (replicate n x) i 0 ≤ get_or (replicate n x) (i + 1) 0
flat n x i h =
    let a : get_or (replicate n x) i 0 ≡ x = get_or-replicate n i x 0 (omega arith) in
    let b : get_or (replicate n x) (i + 1) 0 ≡ x = get_or-replicate n (i + 1) x 0 h in
    omega arith

pub invariant_of-limits : goal.invariant_of-limits
invariant_of-limits c c' = record { wide = refl; high = λ i. omega (arith, level horizon 10 i); grows = flat horizon 10 }
