-- Each call shows what the orders so far say, and leaves a supplier that has taken the orders then.
use Rattle.std.proofs.Common.{◌≡◌, ℕ, zero, suc, ◌-◌, ◌*◌, ◌≤◌, List, [], ◌∷◌, length, Some, None, Ok, Err, Option, sym, refl, ap, ◌∙◌, subst, zero-le, mul-le-mul_left, arith}
use Rattle.std.specs.List.{slice_get, AllByRecursion}
use Rattle.std.proofs.ByRecursion.{All-weaker}
use Rattle.figures.specs.Days.{horizon, window, span}
use Rattle.supplier.specs.declared.fault.Cause.{Cause}
use Rattle.supplier.specs.declared.fault.Cause.TheVariants.{TermSpent, OverDay, OverWindow}
use Rattle.supplier.specs.declared.fault.Fault.{Fault}
use Rattle.supplier.specs.Orders.{due, recent, entered, Fits}
use Rattle.supplier.specs.Limits.{told_limit}
use Rattle.supplier.specs.Meaning.{Meaning, Layout, Laid, Sound, Taken, RefusedBy, CausedBy}
use Rattle.supplier.specs.Shelves.{Placed, Shelved, Tells, figures_of, allowed}
use Rattle.supplier.proofs.Books.{fresh}
use Rattle.supplier.proofs.Recents.{due-recent, window-recent, span-recent, recent-more, recent-none}
use Rattle.pile.specs.declared.calls.Event.{Event}
use Rattle.pile.specs.declared.calls.Event.TheVariants.{Trial, Day, Quote, Limit, Days, Lines, Line}
use Rattle.pile.specs.Events.{after}
use Rattle.pile.specs.Runs.{Terms, State, Stands, Stocked, Shown, Within}
use Rattle.pile.specs.Steps.{Answered, state, terms}

-- windows of the last orders are windows of all orders
module _ (limit : ℕ → ℕ) (days : ℕ) (orders : List ℕ) (q : ℕ) where
  same-window : (k : ℕ) → k ≤ horizon → window k (q ∷ recent horizon orders) ≡ window k (q ∷ orders)
  same-window k h = window-recent horizon orders q k h

  caused_recent : (f : Fault) (cause : Cause) → CausedBy limit days (recent horizon orders) q f cause → CausedBy limit days orders q f cause
  caused_recent f TermSpent p = p
  caused_recent f OverDay p = p
  caused_recent f OverWindow (d, o, (k, from, near, over), two, w) = (d, o, (k, from, near, let e = same-window k near in omega arith), two, w)

  refused-recent : (r : Option Fault) → RefusedBy limit days (recent horizon orders) q r → RefusedBy limit days orders q r
  refused-recent None (d, fits) = (d, λ k a b. let e = same-window k b in let f = fits k a b in omega arith)
  refused-recent (Some f) (d, l, p) = (d, l, caused_recent f f.cause p)

-- one more order that breaks no window
within_more : (limit : ℕ → ℕ) (orders : List ℕ) (q : ℕ) → Within (allowed limit) orders → Fits limit orders q → Within (allowed limit) (q ∷ orders)
within_more limit orders q w f j zero h = zero-le
within_more limit orders q w f zero (suc k) h = f (suc k) (omega arith) h
within_more limit orders q w f (suc j) (suc k) h = w j (suc k) h

module _ (t : Terms) (orders : List ℕ) (s : State) where
  -- a shelf of a supplier whose windows were all within its limit
  stocked : s.meaning.service.limit ≡ t.limit → s.meaning.service.book ≡ recent horizon orders → Within (allowed t.limit) orders →
      (p : Placed) → Shelved s.meaning p → Stocked (allowed t.limit) orders s.meaning.sheet p
  stocked limit book within p v =
      let h = p.shelf in
      let net = h.from - h.upto in
      let near : net ≤ horizon = let a = v.near in omega arith in
      let e : span h.upto h.from (recent horizon orders) ≡ span h.upto h.from orders = span-recent horizon orders h.upto h.from v.order v.near in
      let u : h.pieces * span h.upto h.from orders ≤ h.pieces * allowed t.limit net = mul-le-mul_left h.pieces (within h.upto net near) in
      let l : h.pieces * allowed s.meaning.service.limit net ≡ h.pieces * allowed t.limit net = ap (λ (f : ℕ → ℕ). h.pieces * allowed f net) limit in
      let room = v.room in
      record {
        whole = omega arith;
        low = omega arith;
        printed = λ first.
            subst (λ (n : ℕ). Tells (slice_get s.meaning.sheet p.place) (h.base - h.pieces * n))
            (ap (span h.upto h.from) book ∙ e) (v.told first);
      }

-- a new supplier has taken no order
pub stands_new : (m : Meaning) (layout : Layout) (placed : List Placed) → Sound m → AllByRecursion (Shelved m) placed → m.service.days ≡ 0 →
    Stands (terms m layout placed) [] (state m placed)
stands_new m layout placed sound shelved new =
    let book : m.service.book ≡ recent horizon [] =
    fresh m.service.days m.service.book sound.service.before new sound.service.long ∙ sym (recent-none horizon) in
    record {
      quote = refl;
      limit = refl;
      days = new;
      book = book;
      within = none;
      figures = refl;
      stocks = All-weaker (Shelved m) (Stocked (allowed m.service.limit) [] m.sheet) (stocked (terms m layout placed) [] (state m placed) refl book none) placed shelved;
    }
  where
    none : Within (allowed m.service.limit) []
    none zero zero h = zero-le
    none zero (suc k) h = zero-le
    none (suc j) zero h = zero-le
    none (suc j) (suc k) h = zero-le

module _ (t : Terms) (orders : List ℕ) (s k : State) (v : Stands t orders s) (sound : Sound s.meaning) (sound' : Sound k.meaning)
    (shelved' : AllByRecursion (Shelved k.meaning) k.shelves) (figures : figures_of k.shelves ≡ figures_of s.shelves) where
  -- the refusal of an order, in the orders taken
  refusal_shown : (q : ℕ) → RefusedBy t.limit (length orders) orders q (s.meaning.service.refusal q)
  refusal_shown q =
      refused-recent t.limit (length orders) orders q (s.meaning.service.refusal q)
      (let P : (ℕ → ℕ) → ℕ → List ℕ → Type 0 = λ l d b. RefusedBy l d b q (s.meaning.service.refusal q) in
      subst (λ (l : ℕ → ℕ). P l (length orders) (recent horizon orders)) v.limit
      (subst (λ d. P s.meaning.service.limit d (recent horizon orders)) v.days
      (subst (λ b. P s.meaning.service.limit s.meaning.service.days b) v.book (sound.service.refusals q))))

  -- a call that leaves the meaning leaves a supplier that has taken the same orders
  unmoved : k.meaning ≡ s.meaning → Stands t orders k
  unmoved e =
      let limit = ap (λ m. m.service.limit) e ∙ v.limit in
      let book = ap (λ m. m.service.book) e ∙ v.book in
      record {
        quote = ap (λ m. m.service.quote) e ∙ v.quote;
        limit = limit;
        days = ap (λ m. m.service.days) e ∙ v.days;
        book = book;
        within = v.within;
        figures = figures ∙ v.figures;
        stocks = All-weaker (Shelved k.meaning) (Stocked (allowed t.limit) orders k.meaning.sheet) (stocked t orders k limit book v.within) k.shelves shelved';
      }

  -- a day that is taken adds its order
  moved : (q : ℕ) → Fits t.limit orders q → Taken s.meaning.service q k.meaning.service → Stands t (q ∷ orders) k
  moved q fits took =
      let limit = took.limit ∙ v.limit in
      let book = took.book ∙ ap (entered q) v.book ∙ recent-more horizon q orders in
      let within = within_more t.limit orders q v.within fits in
      record {
        quote = took.quote ∙ v.quote;
        limit = limit;
        days = let a = took.days in let b = v.days in omega arith;
        book = book;
        within = within;
        figures = figures ∙ v.figures;
        stocks = All-weaker (Shelved k.meaning) (Stocked (allowed t.limit) (q ∷ orders) k.meaning.sheet) (stocked t (q ∷ orders) k limit book within) k.shelves shelved';
      }

  pub shown : (layout : Layout) (e : Event) → layout ≡ t.layout → Answered layout s e k → Shown t orders s e k × Stands t (after orders e) k
  shown layout (Trial q r) l (e, same) = ((subst (RefusedBy t.limit (length orders) orders q) (sym e) (refusal_shown q), e, same), unmoved (ap (λ x. x.meaning) same))
  shown layout (Day q (Ok d)) l (free, due-now, took, laid) =
      let p = subst (RefusedBy t.limit (length orders) orders q) free (refusal_shown q) in
      let e : due s.meaning.service.quote s.meaning.service.book q ≡ due t.quote orders q =
      (λ i. due (v.quote i) (v.book i) q) ∙ due-recent horizon orders q t.quote (let a = v.quote in let b = sound.service.near in omega arith) in (
        (p, free, due-now ∙ e, subst (λ (f : Layout). Laid (f (q ∷ recent horizon orders)) k.meaning.sheet) l (subst (λ b. Laid (layout (q ∷ b)) k.meaning.sheet) v.book laid)),
        moved q p.1 took,
      )
  shown layout (Day q (Err f)) l (refused, same) = ((subst (RefusedBy t.limit (length orders) orders q) refused (refusal_shown q), refused, same), unmoved same)
  shown layout (Quote n) l (e, same) = ((e ∙ v.quote, same), unmoved (ap (λ x. x.meaning) same))
  shown layout (Limit i r) l (e, same) = ((e ∙ ap (λ (f : ℕ → ℕ). told_limit f i) v.limit, same), unmoved (ap (λ x. x.meaning) same))
  shown layout (Days n) l (e, same) = ((e ∙ v.days, same), unmoved (ap (λ x. x.meaning) same))
  shown layout (Lines n) l (e, same) = ((e, same), unmoved (ap (λ x. x.meaning) same))
  shown layout (Line i r) l (e, same) = ((e, same), unmoved (ap (λ x. x.meaning) same))
