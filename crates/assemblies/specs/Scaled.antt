-- The lines and the shelves of both sides of an assembly.
use Rattle.std.specs.Prelude.{◌≡◌, ℕ, zero, suc, ◌+◌, ◌-◌, ◌*◌, ◌<◌, ◌≤◌, List, [], ◌∷◌, ◌++◌, map, length, Some, None, Option, refl}
use Rattle.std.proofs.Common.{sym, ap, subst, ◌∙◌, ⊎_elim, mul_assoc, mul_comm, mul-le-mul_left, arith}
use Rattle.std.specs.List.{slice_get, AllByRecursion}
use Rattle.std.proofs.lemmas.List.{map-append}
use Rattle.std.proofs.lemmas.Option.{slice_get_past}
use Rattle.std.proofs.lemmas.Bool.{cases_lt}
use Rattle.figures.specs.Days.{horizon, span}
use Rattle.supplier.specs.declared.line.Line.{Line}
use Rattle.supplier.specs.Meaning.{most_lines, Meaning, Laid}
use Rattle.supplier.specs.Shelves.{Shelf, Placed, Shelved, Tells, held, allowed, figures_of}
use Rattle.layers.specs.Sheets.{topped}
use Rattle.layers.proofs.Topped.{topped_below}
use Rattle.assemblies.specs.Assemblies.{times, scaled, joined}
use Rattle.assemblies.specs.Scaling.{span-times}

pub nth_left : (xs ys : List Line) (i : ℕ) → i < length xs → slice_get (xs ++ ys) i ≡ slice_get xs i
nth_left [] ys i h = absurd (omega arith)
nth_left (x ∷ xs) ys zero h = refl
nth_left (x ∷ xs) ys (suc i) h = nth_left xs ys i (omega arith)

pub nth_right : (xs ys : List Line) (i : ℕ) → length xs ≤ i → slice_get (xs ++ ys) i ≡ slice_get ys (i - length xs)
nth_right [] ys i h = ap (slice_get ys) (let e : i ≡ i - 0 = omega arith in e)
nth_right (x ∷ xs) ys zero h = absurd (omega arith)
nth_right (x ∷ xs) ys (suc i) h =
    let e : i - length xs ≡ suc i - suc (length xs) = omega arith in
    nth_right xs ys i (omega arith) ∙ ap (slice_get ys) e

-- a line that is told is within the sheet
told_inside : (sheet : List Line) (i n : ℕ) → Tells (slice_get sheet i) n → i < length sheet
told_inside sheet i n t =
    ⊎_elim (λ (l : i < length sheet). l) (λ (l : length sheet ≤ i). absurd (subst (λ o. Tells o n) (slice_get_past sheet i l) t)) (cases_lt i (length sheet))

-- the pieces of a shelf, seen from the kits
owed-scaled : (c pieces upto from : ℕ) (orders : List ℕ) → pieces * span upto from (times c orders) ≡ (c * pieces) * span upto from orders
owed-scaled c pieces upto from orders =
    ap (λ n. pieces * n) (span-times c upto from orders) ∙ sym (mul_assoc pieces c (span upto from orders)) ∙ ap (λ n. n * span upto from orders) (mul_comm pieces c)

shelf-scaled : (m t : Meaning) (c places : ℕ) → m.service.book ≡ times c t.service.book →
    ((k : ℕ) → k ≤ horizon → c * allowed t.service.limit k ≤ allowed m.service.limit k) →
    ((i : ℕ) → i < length m.sheet → i + places < most_lines → slice_get t.sheet (i + places) ≡ slice_get m.sheet i) →
    (p : Placed) → Shelved m p → Shelved t (scaled c places p)
shelf-scaled m t c places same under line p s = record {
  order = s.order;
  near = s.near;
  room =
      let h = p.shelf in
      let tau = h.from - h.upto in
      let l = mul-le-mul_left h.pieces (under tau (let a = s.order in let b = s.near in omega arith)) in
      let e : h.pieces * (c * allowed t.service.limit tau) ≡ (c * h.pieces) * allowed t.service.limit tau =
      sym (mul_assoc h.pieces c (allowed t.service.limit tau)) ∙ ap (λ n. n * allowed t.service.limit tau) (mul_comm h.pieces c) in
      let r = s.room in
      omega arith;
  told = λ l.
      let told = s.told (omega arith) in
      let n = held p.shelf m.service.book in
      let e : held (scaled c places p).shelf t.service.book ≡ n =
      ap (λ x. p.shelf.base - x) (sym (owed-scaled c p.shelf.pieces p.shelf.upto p.shelf.from t.service.book) ∙ ap (λ b. p.shelf.pieces * span p.shelf.upto p.shelf.from b) (sym same)) in
      subst (λ x. Tells (slice_get t.sheet (p.place + places)) x) (sym e)
      (subst (λ o. Tells o n) (sym (line p.place (told_inside m.sheet p.place n told) l)) told);
}

pub shelves-scaled : (m t : Meaning) (c places : ℕ) → m.service.book ≡ times c t.service.book →
    ((k : ℕ) → k ≤ horizon → c * allowed t.service.limit k ≤ allowed m.service.limit k) →
    ((i : ℕ) → i < length m.sheet → i + places < most_lines → slice_get t.sheet (i + places) ≡ slice_get m.sheet i) →
    (ps : List Placed) → AllByRecursion (Shelved m) ps → AllByRecursion (Shelved t) (map (scaled c places) ps)
shelves-scaled m t c places same under line [] all = tt
shelves-scaled m t c places same under line (p ∷ ps) all =
    (shelf-scaled m t c places same under line p all.0, shelves-scaled m t c places same under line ps all.1)

-- the places of both sides in the sheet
pub left_line : (line : Line) (left right : List Line) (i : ℕ) → i < length left → i + 1 < most_lines → slice_get (topped line (left ++ right)) (i + 1) ≡ slice_get left i
left_line line left right i h l =
    topped_below line (left ++ right) (i + 1) (omega arith) l ∙ ap (slice_get (left ++ right)) (let e : (i + 1) - 1 ≡ i = omega arith in e) ∙ nth_left left right i h

pub right_line : (line : Line) (left right : List Line) (i : ℕ) → i + (1 + length left) < most_lines → slice_get (topped line (left ++ right)) (i + (1 + length left)) ≡ slice_get right i
right_line line left right i l =
    topped_below line (left ++ right) (i + (1 + length left)) (omega arith) l
    ∙ nth_right left right ((i + (1 + length left)) - 1) (omega arith) ∙ ap (slice_get right) (let e : ((i + (1 + length left)) - 1) - length left ≡ i = omega arith in e)

-- a sheet of both sides that is laid out, under a line
pub laid_joined : (line : Line) (o u : Option (List Line)) (left right : List Line) → Laid o left → Laid u right →
    Laid (joined (λ x y. topped line (x ++ y)) o u) (topped line (left ++ right))
laid_joined line (Some xs) (Some ys) left right a b = (λ i. topped line (a i ++ b i))
laid_joined line (Some xs) None left right a b = tt
laid_joined line None u left right a b = tt

-- the figures of shelves on both sides do not depend on their places
pub scale : ℕ → Shelf → Shelf
scale c h = record { base = h.base; upto = h.upto; from = h.from; pieces = c * h.pieces }

figures-scaled : (c places : ℕ) (ps : List Placed) → figures_of (map (scaled c places) ps) ≡ map (scale c) (figures_of ps)
unfolding scale
figures-scaled c places [] = refl
figures-scaled c places (p ∷ ps) = ap (λ hs. record { base = p.shelf.base; upto = p.shelf.upto; from = p.shelf.from; pieces = c * p.shelf.pieces } ∷ hs) (figures-scaled c places ps)

pub figures_both : (a x : ℕ) (ps : List Placed) (b y : ℕ) (rs : List Placed) →
    figures_of (map (scaled a x) ps ++ map (scaled b y) rs) ≡ map (scale a) (figures_of ps) ++ map (scale b) (figures_of rs)
figures_both a x ps b y rs =
    map-append (λ p. p.shelf) (map (scaled a x) ps) (map (scaled b y) rs) ∙ (λ i. figures-scaled a x ps i ++ figures-scaled b y rs i)
