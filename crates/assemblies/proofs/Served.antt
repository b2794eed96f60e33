-- What an assembly sends to both sides on a day, what they answer, and what the day leaves.
use Rattle.std.proofs.Common.{◌≡◌, ℕ, ◌+◌, ◌-◌, ◌*◌, ◌^◌, ◌<◌, ◌≤◌, min, max, List, ◌∷◌, ◌++◌, get_or, None, Ok, Option, unwrap_or, sym, ap, ◌∙◌, subst, arith}
use Rattle.figures.specs.Days.{horizon, most, near, span}
use Rattle.figures.proofs.Totals.{near_value}
use Rattle.supplier.specs.Orders.{term, entered, due}
use Rattle.supplier.specs.Books.{orders_of}
use Rattle.supplier.specs.Meaning.{Meaning, Sound, Layout, Laid, Taken, Day}
use Rattle.layers.specs.Sheets.{topped}
use Rattle.assemblies.specs.declared.part.Part.{Part}
use Rattle.assemblies.specs.declared.kits.Kits.{Kits}
use Rattle.assemblies.specs.Assemblies.{times, shared, assembly_line, assembly_layout, assembled, joined, Side, Joined}
use Rattle.assemblies.specs.Kitting.{Kept, Assembled}
use Rattle.assemblies.specs.Scaling.{get-times, entered-times}
use Rattle.assemblies.specs.Joining.{fed_left, fed_right, kits_free}
use Rattle.assemblies.specs.Scaled.{laid_joined}
use Rattle.assemblies.proofs.Kitted.{top_small, whole, wait_step, assembly_line_step}

-- what a side that is sent an order answers, unless it refuses
abbrev pub Accepts : Layout → ℕ → ℕ → Meaning → Meaning → Type 0
Accepts lays x received before after =
    before.service.refusal x ≡ None →
    (received ≡ due before.service.quote before.service.book x) × Taken before.service x after.service × Laid (lays (x ∷ before.service.book)) after.sheet

-- a side that took its parts of so many kits
pub record Sent (lays : Layout) (c q received : ℕ) (orders : List ℕ) (before after : Meaning) : Type 0 where
  pub received_due : received ≡ c * due before.service.quote orders q
  pub quote : after.service.quote ≡ before.service.quote
  pub limit : after.service.limit ≡ before.service.limit
  pub days : after.service.days ≡ before.service.days + 1
  pub book : after.service.book ≡ times c (entered q orders)
  pub laid : Laid (lays (times c (q ∷ orders))) after.sheet

side_sent : (lays : Layout) (c q x received : ℕ) (orders : List ℕ) (before after : Meaning) → c ≤ 100 → q ≤ most → x ≡ min (c * q) (2 ^ 64 - 1) →
    before.service.book ≡ times c orders → before.service.refusal (c * q) ≡ None → Accepts lays x received before after →
    Sent lays c q received orders before after
side_sent lays c q x received orders before after few little cut same free answers =
    let e = whole c q x few little cut in
    let (r, t, l) = answers (ap before.service.refusal e ∙ free) in
    record {
      received_due = r ∙ (λ i. due before.service.quote (same i) (e i)) ∙ get-times c (q ∷ orders) before.service.quote;
      quote = t.quote;
      limit = t.limit;
      days = t.days;
      book = t.book ∙ (λ i. entered (e i) (same i)) ∙ entered-times c q orders;
      laid = subst (λ xs. Laid (lays xs) after.sheet) (λ i. e i ∷ same i) l;
    }

-- a day that an assembly takes: it is in time, both sides took their parts, and the kits due are delivered
pub record Served (ll rl : Layout) (own : Kits) (q from-left from-right delivery : ℕ) (left right left' right' : Meaning) : Type 0 where
  pub early : own.days < term
  pub little : q ≤ most
  pub close : max left.service.quote right.service.quote ≤ horizon
  pub left_sent : Sent ll own.left.per_kit q from-left (orders_of own.orders) left left'
  pub right_sent : Sent rl own.right.per_kit q from-right (orders_of own.orders) right right'
  pub delivered : delivery ≡ due (max left.service.quote right.service.quote) (orders_of own.orders) q

pub served : (ll rl : Layout) {own : Kits} {q x y quote from-left from-right delivery : ℕ} {told : Option ℕ} {left right left' right' : Meaning} →
    Joined left right own → Sound left → Sound right → None ≡ (assembled own left right).service.refusal q →
    x ≡ min (own.left.per_kit * q) (2 ^ 64 - 1) → Accepts ll x from-left left left' → y ≡ min (own.right.per_kit * q) (2 ^ 64 - 1) → Accepts rl y from-right right right' →
    quote ≡ max left.service.quote right.service.quote → told ≡ near quote (due quote (orders_of own.orders) q) → delivery ≡ unwrap_or told 0 →
    Served ll rl own q from-left from-right delivery left right left' right'
served ll rl {own} {q} {x} {y} {quote} {from-left} {from-right} {delivery} {told} {left} {right} {left'} {right'} tied ls rs free xe la ye ra qe te de =
    let orders = orders_of own.orders in
    let L = left.service in
    let R = right.service in
    let f =
    kits_free own.number own.left.per_kit own.right.per_kit own.days orders L R own.left.some own.right.some
    (fed_left tied) (fed_right tied) q own.until (sym free) in
    let small : q ≤ most = let t = f.top in let s = top_small own L R ls.service in omega arith in
    let by : max L.quote R.quote ≤ horizon = let a = ls.service.near in let b = rs.service.near in omega arith in
    record {
      early = f.early;
      little = small;
      close = by;
      left_sent = side_sent ll own.left.per_kit q x from-left orders left left' own.left.few small xe tied.left_side.same f.left-free la;
      right_sent = side_sent rl own.right.per_kit q y from-right orders right right' own.right.few small ye tied.right_side.same f.right-free ra;
      delivered = de ∙ ap (λ o. unwrap_or o 0) te ∙ (λ i. unwrap_or (near (qe i) (due (qe i) orders q)) 0)
          ∙ near_value (max L.quote R.quote) (due (max L.quote R.quote) orders q) by;
    }

module _ {ll rl : Layout} {own own' : Kits} {q from-left from-right delivery : ℕ} {left right left' right' : Meaning}
    (tied : Joined left right own) (s : Served ll rl own q from-left from-right delivery left right left' right')
    (kit : Assembled own q from-left from-right delivery own') where
  side_step : {lays : Layout} {c c' received : ℕ} {before after : Meaning} → c' ≡ c → Side before c (orders_of own.orders) own.days →
      Sent lays c q received (orders_of own.orders) before after → Side after c' (orders_of own'.orders) own'.days
  side_step e side sent = record {
    same = sent.book ∙ (λ i. times (sym e i) (sym (kit.orders s.little) i));
    together = sent.days ∙ ap (λ n. n + 1) side.together ∙ sym (kit.days s.early);
  }

  waits_step : {lays : Layout} {part part' : Part} {received : ℕ} {before after : Meaning} → before.service.quote ≤ max left.service.quote right.service.quote →
      part.waiting ≡ part.per_kit * span before.service.quote (max left.service.quote right.service.quote) (orders_of own.orders) →
      Sent lays part.per_kit q received (orders_of own.orders) before after → Kept part received delivery part' →
      part'.waiting ≡ part'.per_kit * span after.service.quote (max left'.service.quote right'.service.quote) (orders_of own'.orders)
  waits_step {part = part} {received = received} {before = before} early waits sent kept =
      let w =
      wait_step part.per_kit before.service.quote (max left.service.quote right.service.quote) q part.waiting received delivery own.orders
      part.few early s.close s.little waits sent.received_due s.delivered in
      kept.waiting w.1 w.0 ∙ w.2
      ∙ (λ i. sym kept.per_kit i * span (sym sent.quote i) (max (sym s.left_sent.quote i) (sym s.right_sent.quote i)) (sym (kit.orders s.little) i))

  pub joined_step : Joined left' right' own'
  joined_step = record {
    left_side = side_step kit.left.per_kit tied.left_side s.left_sent;
    right_side = side_step kit.right.per_kit tied.right_side s.right_sent;
    left_waits = waits_step (omega arith) tied.left_waits s.left_sent kit.left;
    right_waits = waits_step (omega arith) tied.right_waits s.right_sent kit.right;
  }

  pub day_answers : None ≡ (assembled own left right).service.refusal q →
      Day (assembly_layout own.number own.left.per_kit own.right.per_kit left.service.quote right.service.quote ll rl) (assembled own left right) q (Ok delivery) (assembled own' left' right')
  day_answers free =
      let orders = orders_of own.orders in
      let L = left.service in
      let R = right.service in
      let ls = s.left_sent in
      let rs = s.right_sent in
      let late = max L.quote R.quote in
      let ordered = kit.orders s.little in
      let line = assembly_line own.number own.left.per_kit own.right.per_kit L.quote R.quote (q ∷ orders) (get_or (q ∷ orders) late 0) in
      let step =
      assembly_line_step own.number own'.number own.left.per_kit own'.left.per_kit own.right.per_kit own'.right.per_kit L.quote left'.service.quote R.quote right'.service.quote q own'.delivered
      orders (orders_of own'.orders) (let x = s.close in omega arith) (let x = s.close in omega arith)
      kit.number kit.left.per_kit kit.right.per_kit ls.quote rs.quote ordered (kit.delivered ∙ s.delivered) in (
        sym free,
        s.delivered,
        record {
          quote = (λ i. max (ls.quote i) (rs.quote i));
          limit = (λ i. shared (ls.limit i) (rs.limit i) (kit.left.per_kit i) (kit.right.per_kit i));
          days = kit.days s.early;
          book = ordered;
        },
        subst (λ x. Laid (joined (λ xs ys. topped line (xs ++ ys)) (ll (times own.left.per_kit (q ∷ orders))) (rl (times own.right.per_kit (q ∷ orders)))) (topped x (left'.sheet ++ right'.sheet)))
            (sym step)
            (laid_joined line (ll (times own.left.per_kit (q ∷ orders))) (rl (times own.right.per_kit (q ∷ orders))) left'.sheet right'.sheet ls.laid rs.laid),
      )
