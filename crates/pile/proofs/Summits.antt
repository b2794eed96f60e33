-- The climbing list of a stage's envelope is taken whole, and brings each shelf to its lowest point.
use Rattle.std.proofs.Common.{◌≡◌, ℕ, zero, suc, ◌+◌, ◌-◌, ◌*◌, ◌<◌, ◌≤◌, List, [], ◌∷◌, map, length, get_or, take, drop, IfSome, Some, None, Ok, Err, Option, sym, refl, ap, ◌∙◌, subst, ⊎_elim, add-one, arith}
use Rattle.std.specs.List.{AllByRecursion}
use Rattle.std.proofs.lemmas.Bool.{cases_lt}
use Rattle.std.proofs.ByRecursion.{All-weaker, All-map}
use Rattle.figures.specs.Days.{horizon, total, window, span}
use Rattle.figures.specs.Joins.{Joins}
use Rattle.supplier.specs.declared.fault.Fault.{Fault}
use Rattle.supplier.specs.Orders.{Fits}
use Rattle.supplier.specs.Meaning.{Meaning, Layout, Sound, RefusedBy}
use Rattle.supplier.specs.Shelves.{Shelf, Placed, Shelved, Enveloped, held, allowed}
use Rattle.supplier.proofs.Services.{free-taken}
use Rattle.pile.specs.declared.calls.Call.{Call}
use Rattle.pile.specs.declared.calls.Call.TheVariants as call
use Rattle.pile.specs.declared.calls.Event.{Event}
use Rattle.pile.specs.declared.calls.Event.TheVariants.{Trial, Day, Quote, Limit, Days, Lines, Line}
use Rattle.pile.specs.Events.{asked, taken, Took}
use Rattle.pile.specs.Runs.{Terms, State, History, Run, Climbing, Reached, Summit}
use Rattle.pile.specs.Steps.{state, terms}

-- the orders of the climbing list's first n days, the newest first
abbrev climb : (ℕ → ℕ) → ℕ → List ℕ
climb bound zero = []
climb bound (suc n) = (bound (suc n) - bound n) ∷ climb bound n

module _ (bound : ℕ → ℕ) (none : bound 0 ≡ 0) (grows : (k : ℕ) → k < horizon → bound k ≤ bound (suc k)) where
  rises : (i d : ℕ) → i + d ≤ horizon → bound i ≤ bound (i + d)
  rises i zero h = let e : i ≡ i + 0 = omega arith in subst (λ k. bound i ≤ bound k) e (omega arith)
  rises i (suc d) h =
      let r = rises i d (omega arith) in
      let u = grows (i + d) (omega arith) in
      let e : suc (i + d) ≡ i + suc d = omega arith in
      subst (λ k. bound i ≤ bound k) e (omega arith)

  climb-length : (n : ℕ) → length (climb bound n) ≡ n
  climb-length zero = refl
  climb-length (suc n) = ap suc (climb-length n)

  climb-window : (k n : ℕ) → n ≤ horizon → window k (climb bound n) + bound (n - k) ≡ bound n
  climb-window zero n h = let e : n - 0 ≡ n = omega arith in let x = ap bound e in omega arith
  climb-window (suc k) zero h = let e : 0 - suc k ≡ 0 = omega arith in let x = ap bound e in omega arith
  climb-window (suc k) (suc n) h =
      let r = climb-window k n (omega arith) in
      let e : suc n - suc k ≡ n - k = omega arith in
      let x = ap bound e in
      let u = grows n h in
      omega arith

  climb-drop : (u n : ℕ) → u ≤ n → drop u (climb bound n) ≡ climb bound (n - u)
  climb-drop zero n h = let e : n - 0 ≡ n = omega arith in ap (climb bound) (sym e)
  climb-drop (suc u) zero h = absurd (omega arith)
  climb-drop (suc u) (suc n) h = let e : n - u ≡ suc n - suc u = omega arith in climb-drop u n (omega arith) ∙ ap (climb bound) e

  climb-span : (upto from : ℕ) → upto ≤ from → from ≤ horizon → span upto from (climb bound from) ≡ bound (from - upto)
  climb-span upto from a b =
      let d = ap (λ xs. total (take (from - upto) xs)) (climb-drop upto from a) in
      let w = climb-window (from - upto) (from - upto) (omega arith) in
      let e : (from - upto) - (from - upto) ≡ 0 = omega arith in
      let x = ap bound e in
      omega arith

  module _ (joins : Joins bound) where
    -- the next order of the climbing list breaks no window
    climb_fits : (n : ℕ) → suc n ≤ horizon → Fits bound (climb bound n) (bound (suc n) - bound n)
    climb_fits n h k a b =
        let w = climb-window k (suc n) h in
        ⊎_elim
        (λ (l : suc n < k).
        let e : suc n - k ≡ 0 = omega arith in
        let x = ap bound e in
        let i : suc n + (k - suc n) ≡ k = omega arith in
        let r = rises (suc n) (k - suc n) (omega arith) in
        let y = ap bound i in
        omega arith)
        (λ (l : k ≤ suc n).
        let i : k + (suc n - k) ≡ suc n = omega arith in
        let y = ap bound i in
        let s = joins k (suc n - k) (omega arith) in
        omega arith)
        (cases_lt (suc n) k)

    module _ (t : Terms) (same : (k : ℕ) → 1 ≤ k → k ≤ horizon → t.limit k ≡ bound k) where
      -- and is not refused
      never_refused : (n q : ℕ) (f : Fault) → suc n ≤ horizon → q ≡ bound (suc n) - bound n → RefusedBy t.limit (length (climb bound n)) (climb bound n) q (Some f) → ⊥
      never_refused n q f h e p =
          let fits : Fits t.limit (climb bound n) q =
          λ k a b. let w = climb_fits n h k a b in let g = ap (λ x. window k (x ∷ climb bound n)) e in let l = same k a b in omega arith in
          let l = climb-length n in
          let z : Some f ≡ None = free-taken t.limit (length (climb bound n)) (climb bound n) q (Some f) (omega arith) fits p in
          let y : ◌≡◌ {A = ℕ} 0 1 = cc in
          omega arith

      -- from the n-th day of the climbing list on, each day is taken
      climbs : (c n : ℕ) (os : List ℕ) (es : List Event) (s z : State) → length os ≡ c → n + c ≤ horizon →
          ((k : ℕ) → k < c → get_or os k 0 ≡ bound (suc (n + k)) - bound (n + k)) → map asked es ≡ map call.Day os → History t (climb bound n) s es z →
          AllByRecursion Took es × ((k : ℕ) → k ≤ c → taken (climb bound n) (take k es) ≡ climb bound (n + k))
      climbs c n [] [] s z long h steps e y = (tt, ended)
        where
          ended : (k : ℕ) → k ≤ c → taken (climb bound n) (take k []) ≡ climb bound (n + k)
          ended zero l = let z : n ≡ n + 0 = omega arith in ap (climb bound) z
          ended (suc k) l = absurd (let a : c ≡ 0 = sym long in omega arith)
      climbs c n [] (x ∷ es) s z long h steps e y = absurd (let z : ◌≡◌ {A = ℕ} 0 1 = cc in omega arith)
      climbs c n (o ∷ os) [] s z long h steps e y = absurd (let z : ◌≡◌ {A = ℕ} 0 1 = cc in omega arith)
      climbs c n (o ∷ os) (Trial q r ∷ es) s z long h steps e y = absurd (let z : ◌≡◌ {A = ℕ} 0 1 = cc in omega arith)
      climbs c n (o ∷ os) (Quote q ∷ es) s z long h steps e y = absurd (let z : ◌≡◌ {A = ℕ} 0 1 = cc in omega arith)
      climbs c n (o ∷ os) (Limit q r ∷ es) s z long h steps e y = absurd (let z : ◌≡◌ {A = ℕ} 0 1 = cc in omega arith)
      climbs c n (o ∷ os) (Days q ∷ es) s z long h steps e y = absurd (let z : ◌≡◌ {A = ℕ} 0 1 = cc in omega arith)
      climbs c n (o ∷ os) (Lines q ∷ es) s z long h steps e y = absurd (let z : ◌≡◌ {A = ℕ} 0 1 = cc in omega arith)
      climbs c n (o ∷ os) (Line q r ∷ es) s z long h steps e y = absurd (let z : ◌≡◌ {A = ℕ} 0 1 = cc in omega arith)
      climbs zero n (o ∷ os) (Day q r ∷ es) s z long h steps e y = absurd (omega arith)
      climbs (suc c) n (o ∷ os) (Day q (Err f) ∷ es) s z long h steps e y =
          let i : q ≡ o = cc in
          let j = first o steps in
          absurd (never_refused n q f (omega arith) (i ∙ j) y.1.0)
        where
          first : (o : ℕ) → ((k : ℕ) → k < suc c → get_or (o ∷ os) k 0 ≡ bound (suc (n + k)) - bound (n + k)) → o ≡ bound (suc n) - bound n
          first o steps = let e : n + 0 ≡ n = omega arith in steps 0 (omega arith) ∙ ap (λ m. bound (suc m) - bound m) e
      climbs (suc c) n (o ∷ os) (Day q (Ok d) ∷ es) s z long h steps e y =
          let i : q ≡ bound (suc n) - bound n =
          let a : q ≡ o = cc in let e : n + 0 ≡ n = omega arith in a ∙ steps 0 (omega arith) ∙ ap (λ m. bound (suc m) - bound m) e in
          let r : map asked es ≡ map call.Day os = cc in
          let w = climbs c (suc n) os es y.0 z (omega arith) (omega arith)
          (λ k l. let e : n + suc k ≡ suc n + k = omega arith in steps (suc k) (omega arith) ∙ ap (λ m. bound (suc m) - bound m) e) r
          (subst (λ (p : ℕ). History t (p ∷ climb bound n) y.0 es z) i y.3) in
          ((tt, w.0), more q i w.1)
        where
          more : (q : ℕ) → q ≡ bound (suc n) - bound n → ((k : ℕ) → k ≤ c → taken (climb bound (suc n)) (take k es) ≡ climb bound (suc n + k)) →
              (k : ℕ) → k ≤ suc c → taken (climb bound n) (take k (Day q (Ok d) ∷ es)) ≡ climb bound (n + k)
          more q i w zero l = let e : n ≡ n + 0 = omega arith in ap (climb bound) e
          more q i w (suc k) l =
              let e : suc n + k ≡ n + suc k = omega arith in
              ap (λ p. taken (p ∷ climb bound n) (take k es)) i ∙ w k (omega arith) ∙ ap (climb bound) e

  -- the day on which a shelf is at its lowest: the last whose orders are off it
  lowest-day : (es : List Event) → ((k : ℕ) → k ≤ horizon → taken [] (take k es) ≡ climb bound k) →
      (h : Shelf) → (h.upto ≤ h.from) × (h.from ≤ horizon) → Reached bound es h
  lowest-day es w h p =
      ⊎_elim
      (λ (a : 0 < h.from).
      (h.from, a, p.1, ap (held h) (w h.from p.1) ∙ ap (λ x. h.base - h.pieces * x) (climb-span h.upto h.from p.0 p.1)))
      (λ (a : h.from ≤ 0).
      let e : h.from - h.upto ≡ 0 = omega arith in
      let x : span h.upto h.from (climb bound 1) ≡ bound (h.from - h.upto) =
      ap (λ n. total (take n (drop h.upto (climb bound 1)))) e ∙ sym (ap bound e ∙ none) in
      (1, omega arith, omega arith, ap (held h) (w 1 (omega arith)) ∙ ap (λ x. h.base - h.pieces * x) x))
      (cases_lt 0 h.from)

-- a new supplier with an envelope, over a whole list of calls
summit : (m : Meaning) (layout : Layout) (placed : List Placed) (bound : ℕ → ℕ) (calls : List Call) (events : List Event) (k : State) →
    Sound m → AllByRecursion (Shelved m) placed → Enveloped m placed bound → Run (terms m layout placed) [] (state m placed) calls events k →
    Summit (terms m layout placed) bound calls events
summit m layout placed bound calls events k sound shelved v run = record {
  own = v.own;
  bounds = bounds;
  climbed = λ c. (climbing c).0;
  reached = λ c.
      All-map (Reached bound events) (λ p. p.shelf) placed
      (All-weaker (Shelved m) (λ p. Reached bound events p.shelf)
      (λ p h. lowest-day bound v.none grows events
      (λ n l. let z : 0 + n ≡ n = omega arith in (climbing c).1 n l ∙ ap (climb bound) z) p.shelf (h.order, h.near))
      placed shelved);
}
  where
    bounds : (k : ℕ) → k ≤ horizon → allowed m.service.limit k ≡ bound k
    bounds zero h = sym v.none
    bounds (suc k) h = v.same (suc k) (omega arith) h

    grows : (k : ℕ) → k < horizon → bound k ≤ bound (suc k)
    grows zero h = let z = v.none in omega arith
    grows (suc k) h =
        let a = v.same (suc k) (omega arith) (omega arith) in
        let b = v.same (suc (suc k)) (omega arith) h in
        let g : m.service.limit (suc k) ≤ m.service.limit (suc (suc k)) =
        subst (λ n. m.service.limit (suc k) ≤ m.service.limit n) (add-one (suc k)) (sound.service.grows (suc k) (omega arith) h) in
        omega arith

    climbing : Climbing bound calls → AllByRecursion Took events × ((k : ℕ) → k ≤ horizon → taken [] (take k events) ≡ climb bound (0 + k))
    climbing c =
        climbs bound v.none grows v.joins (terms m layout placed) v.same horizon 0 c.orders events (state m placed) k c.long (omega arith)
        (λ n l. let z : 0 + n ≡ n = omega arith in c.steps n l ∙ (λ i. bound (add-one (sym z i) i) - bound (sym z i))) (run.each ∙ c.days) run.history

-- a new supplier, with an envelope or none
pub summits : (m : Meaning) (layout : Layout) (placed : List Placed) (envelope : Option (ℕ → ℕ)) (calls : List Call) (events : List Event) (k : State) →
    Sound m → AllByRecursion (Shelved m) placed → IfSome envelope (Enveloped m placed) → Run (terms m layout placed) [] (state m placed) calls events k →
    IfSome envelope (λ bound. Summit (terms m layout placed) bound calls events)
summits m layout placed None calls events k sound shelved v run = tt
summits m layout placed (Some bound) calls events k sound shelved v run = summit m layout placed bound calls events k sound shelved v run
