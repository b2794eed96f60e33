-- A layer's line before the lines below, and the shelves below seen from the layer.
use Rattle.std.proofs.Common.{◌≡◌, ℕ, zero, suc, ◌+◌, ◌-◌, ◌<◌, ◌≤◌, min, List, [], ◌∷◌, map, length, take, Some, None, Option, sym, refl, ap, ◌∙◌, subst, le_trans, mul-le-mul_left, arith}
use Rattle.std.specs.List.{slice_get, AllByRecursion}
use Rattle.std.specs.Option.{option_map}
use Rattle.std.proofs.lemmas.List.{length-take}
use Rattle.std.proofs.lemmas.Option.{slice_get_past}
use Rattle.figures.specs.Days.{horizon}
use Rattle.supplier.specs.declared.line.Line.{Line}
use Rattle.supplier.specs.Meaning.{most_lines, Service, Meaning, Steady, Sound, Laid}
use Rattle.supplier.specs.Shelves.{Placed, Shelved, Tells, held, allowed, figures_of}
use Rattle.layers.specs.Sheets.{topped, later}

nth-take : {X : Type 0} (n : ℕ) (xs : List X) (i : ℕ) → i < n → slice_get (take n xs) i ≡ slice_get xs i
nth-take zero xs i h = absurd (omega arith)
nth-take (suc n) [] i h = refl
nth-take (suc n) (x ∷ xs) zero h = refl
nth-take (suc n) (x ∷ xs) (suc i) h = nth-take n xs i (omega arith)

pub topped-first : (line : Line) (below : List Line) (i : ℕ) → i ≡ 0 → Some line ≡ slice_get (topped line below) i
topped-first line below i e = ap (slice_get (topped line below)) (sym e)

pub topped_below : (line : Line) (below : List Line) (i : ℕ) → 0 < i → i < most_lines → slice_get (topped line below) i ≡ slice_get below (i - 1)
topped_below line below i a b =
    let e : i ≡ suc (i - 1) = omega arith in
    ap (slice_get (topped line below)) e ∙ nth-take (most_lines - 1) below (i - 1) (omega arith)

pub topped-cut : (line : Line) (below : List Line) (i : ℕ) → most_lines ≤ i → slice_get (topped line below) i ≡ None
topped-cut line below i h = let l = length-take most_lines (line ∷ below) in slice_get_past (topped line below) i (omega arith)

pub topped-length : (line : Line) (below : List Line) → length (topped line below) ≡ min (length below + 1) most_lines
topped-length line below = let l = length-take most_lines (line ∷ below) in omega arith

-- a service that is steady, with a line over the sheets below
pub sound-topped : (s : Service) (line : Line) (below : List Line) → Steady s → Sound (record { service = s; sheet = topped line below })
sound-topped s line below steady = let l = topped-length line below in record { service = steady; some = omega arith; few = omega arith }

-- a sheet below that is laid out, under a line
pub laid_topped : (line : Line) (o : Option (List Line)) (sheet : List Line) → Laid o sheet → Laid (option_map (topped line) o) (topped line sheet)
laid_topped line None sheet l = tt
laid_topped line (Some lines) sheet l = ap (topped line) l

-- a shelf below, seen from a layer with the same book and no larger limit
shelf-later : (m t : Meaning) (line : Line) → t.service.book ≡ m.service.book →
    ((k : ℕ) → k ≤ horizon → allowed t.service.limit k ≤ allowed m.service.limit k) →
    t.sheet ≡ topped line m.sheet → (p : Placed) → Shelved m p → Shelved t (later p)
shelf-later m t line same under sheet p s = record {
  order = s.order;
  near = s.near;
  room = le_trans (mul-le-mul_left p.shelf.pieces (under (p.shelf.from - p.shelf.upto) (let a = s.order in let b = s.near in omega arith))) s.room;
  told = λ l.
      let e : slice_get t.sheet (p.place + 1) ≡ slice_get m.sheet p.place =
      ap (λ xs. slice_get xs (p.place + 1)) sheet ∙ topped_below line m.sheet (p.place + 1) (omega arith) l
      ∙ ap (slice_get m.sheet) (let z : (p.place + 1) - 1 ≡ p.place = omega arith in z) in
      subst (λ o. Tells o (held p.shelf t.service.book)) (sym e)
      (subst (λ b. Tells (slice_get m.sheet p.place) (held p.shelf b)) (sym same) (s.told (omega arith)));
}

pub shelves-later : (m t : Meaning) (line : Line) → t.service.book ≡ m.service.book →
    ((k : ℕ) → k ≤ horizon → allowed t.service.limit k ≤ allowed m.service.limit k) →
    t.sheet ≡ topped line m.sheet → (ps : List Placed) → AllByRecursion (Shelved m) ps → AllByRecursion (Shelved t) (map later ps)
shelves-later m t line same under sheet [] all = tt
shelves-later m t line same under sheet (p ∷ ps) all =
    (shelf-later m t line same under sheet p all.0, shelves-later m t line same under sheet ps all.1)

-- the figures of shelves below do not depend on their places
pub figures-later : (ps : List Placed) → figures_of (map later ps) ≡ figures_of ps
figures-later [] = refl
figures-later (p ∷ ps) = ap (λ hs. p.shelf ∷ hs) (figures-later ps)

-- a line below a layer's own, as `line_under` tells it of a valid supplier
pub told_below : (valid : Type 0) (told : Option Line) (below : List Line) (i : ℕ) → (valid → (own : Line) → 1 ≤ i → told ≡ slice_get (topped own below) i) →
    valid → 1 ≤ i → (own : Line) → told ≡ slice_get (topped own below) i
told_below valid told below i says v some own = says v own some
