-- Proofs of the laws of suppliers for an assembly: its meaning is sound, and the shelves of both sides hold what is told.
use Rattle.std.specs.Prelude.{ℕ, zero, suc, ◌+◌, ◌*◌, ◌≤◌, List, ◌++◌, map, length, slice_index}
use Rattle.std.specs.List.{AllByRecursion}
use Rattle.std.proofs.Common.{sym, ap, ◌∙◌, arith, mul-zero}
use Rattle.std.proofs.ByRecursion.{All-append}
use Rattle.figures.specs.Days.{most}
use Rattle.supplier.specs.Books.{orders_of}
use Rattle.supplier.proofs.Books.{orders-long}
use Rattle.supplier.specs.Meaning.{Meaning, Sound}
use Rattle.supplier.specs.Shelves.{Placed, Shelved, allowed}
use Rattle.layers.proofs.Topped.{sound-topped}
use Rattle.assemblies.specs.declared.kits.Kits.{Kits}
use Rattle.assemblies.specs.Assemblies.{assembled, scaled, Joined, shared}
use Rattle.assemblies.specs.Scaling.{get-times, shared-left, shared-right, shared-grows, shared-small}
use Rattle.assemblies.specs.Joining.{fed_left, fed_right, kits_refused, none_of}
use Rattle.assemblies.specs.Scaled.{shelves-scaled, left_line, right_line}

pub assembled_sound : (own : Kits) (left right : Meaning) → Joined left right own → Sound left → Sound right →
    Sound (assembled own left right)
assembled_sound own left right v sl sr =
    let ls = sl.service in
    let rs = sr.service in
    let orders = orders_of own.orders in
    let L = left.service.limit in
    let R = right.service.limit in
    sound-topped _ _ (left.sheet ++ right.sheet) (record {
      near = let a = ls.near in let b = rs.near in omega arith;
      high = λ k a b. shared-small L R own.left.per_kit own.right.per_kit k most own.left.some (ls.high k a b);
      grows = λ k a b. shared-grows L R own.left.per_kit own.right.per_kit k (k + 1) own.left.some own.right.some (ls.grows k a b) (rs.grows k a b);
      until = own.until;
      long = orders-long own.orders;
      before = λ j h.
          none_of own.left.per_kit (slice_index orders j) own.left.some
          (sym (get-times own.left.per_kit orders j) ∙ ap (λ xs. slice_index xs j) (sym v.left_side.same) ∙ ls.before j (let e = v.left_side.together in omega arith));
      refusals = λ q.
          kits_refused own.number own.left.per_kit own.right.per_kit own.days orders left.service right.service own.left.some own.right.some
          (fed_left v) (fed_right v) q own.until (ls.refusals (own.left.per_kit * q)) (rs.refusals (own.right.per_kit * q));
    })

-- so many kits need no more of a side than it allows
side_allowed : (c : ℕ) (limit both : ℕ → ℕ) → ((k : ℕ) → c * both k ≤ limit k) → (k : ℕ) → c * allowed both k ≤ allowed limit k
side_allowed c limit both h zero = let z = mul-zero c in omega arith
side_allowed c limit both h (suc k) = h (suc k)

pub assembled_shelved : (own : Kits) (left right : Meaning) (ps qs : List Placed) → Joined left right own →
    AllByRecursion (Shelved left) ps → AllByRecursion (Shelved right) qs →
    AllByRecursion (Shelved (assembled own left right)) (map (scaled own.left.per_kit 1) ps ++ map (scaled own.right.per_kit (1 + length left.sheet)) qs)
assembled_shelved own left right ps qs v all others =
    let L = left.service.limit in
    let R = right.service.limit in
    let t = assembled own left right in
    All-append (Shelved t) (map (scaled own.left.per_kit 1) ps) (map (scaled own.right.per_kit (1 + length left.sheet)) qs)
    (shelves-scaled left t own.left.per_kit 1 v.left_side.same (λ k h. side_allowed own.left.per_kit L (shared L R own.left.per_kit own.right.per_kit) (shared-left L R own.left.per_kit own.right.per_kit) k)
    (λ i h l. left_line _ left.sheet right.sheet i h l) ps all)
    (shelves-scaled right t own.right.per_kit (1 + length left.sheet) v.right_side.same
    (λ k h. side_allowed own.right.per_kit R (shared L R own.left.per_kit own.right.per_kit) (shared-right L R own.left.per_kit own.right.per_kit) k)
    (λ i h l. right_line _ left.sheet right.sheet i l) qs others)
