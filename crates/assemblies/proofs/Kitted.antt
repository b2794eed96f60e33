-- The parts that wait at an assembly, and what a day does to them.
use Rattle.std.proofs.Common.{◌≡◌, ℕ, zero, suc, ◌+◌, ◌-◌, ◌*◌, ◌^◌, ◌<◌, ◌≤◌, min, max, List, ◌∷◌, get_or, drop, Option, unwrap_or, sym, ap, ◌∙◌, subst, mul-le-mul, mul-le-mul_left, mul-zero, mul-add, arith}
use Rattle.std.proofs.lemmas.List.{get_or-drop}
use Rattle.figures.specs.Days.{horizon, most, span}
use Rattle.figures.proofs.Totals.{window-small, span-pushed, span_front, zeros_total}
use Rattle.supplier.specs.declared.book.Book.{Book}
use Rattle.supplier.specs.declared.line.Kind.TheVariants as kind
use Rattle.supplier.specs.Orders.{entered, due, no_orders}
use Rattle.supplier.specs.Books.{orders_of}
use Rattle.supplier.proofs.Books.{orders-small, fresh}
use Rattle.supplier.specs.Limits.{told_limit}
use Rattle.supplier.specs.Meaning.{Service, Meaning, Steady, Sound}
use Rattle.supplier.proofs.Services.{told_value}
use Rattle.assemblies.specs.declared.kits.Kits.{Kits}
use Rattle.assemblies.specs.Assemblies.{times, shared, assembly_line, Side, Joined}
use Rattle.assemblies.specs.AssemblyMaking.{Unkitted}
use Rattle.assemblies.specs.Scaling.{shared-small, times_zeros}

-- a stretch of a book's orders is small
span_small : (b : Book) (upto from : ℕ) → from ≤ horizon → span upto from (orders_of b) ≤ most * horizon
span_small b upto from h =
    let w = window-small most (from - upto) (drop upto (orders_of b)) (λ i. subst (λ n. n ≤ most) (sym (get_or-drop upto (orders_of b) i 0)) (orders-small b (upto + i))) in
    let m : most * (from - upto) ≤ most * horizon = mul-le-mul_left most (let x : from - upto ≤ horizon = omega arith in x) in
    omega arith

pub waits_small : (c upto from : ℕ) (b : Book) → c ≤ 100 → from ≤ horizon → c * span upto from (orders_of b) ≤ 100 * (most * horizon)
waits_small c upto from b h l = mul-le-mul h (span_small b upto from l)

-- what waits on one side after a day: its parts received before the kits' due day
pub wait_step : (c early late q wait received delivery : ℕ) (b : Book) → c ≤ 100 → early ≤ late → late ≤ horizon → q ≤ most →
    wait ≡ c * span early late (orders_of b) → received ≡ c * due early (orders_of b) q → delivery ≡ due late (orders_of b) q →
    (wait + received < 2 ^ 64) × (c * delivery < 2 ^ 64) × ((wait + received) - c * delivery ≡ c * span early late (entered q (orders_of b)))
wait_step c early late q wait received delivery b few order near little w r d =
    let book = orders_of b in
    let s = span-pushed horizon early late q book order near in
    let x = mul-add c (span early late (entered q book)) (get_or (q ∷ book) late 0) in
    let y = mul-add c (span early late book) (get_or (q ∷ book) early 0) in
    let e : c * (span early late (entered q book) + get_or (q ∷ book) late 0) ≡ c * (span early late book + get_or (q ∷ book) early 0) = ap (λ n. c * n) s in
    let z : c * delivery ≡ c * get_or (q ∷ book) late 0 = ap (λ n. c * n) d in
    let u = waits_small c early late b few near in
    let small = due_little early q b little in
    let v : c * due early book q ≤ 100 * most = mul-le-mul few small in
    let t : c * due late book q ≤ 100 * most = mul-le-mul few (due_little late q b little) in
    (omega arith, omega arith, omega arith)
  where
    due_little : (n q : ℕ) (b : Book) → q ≤ most → due n (orders_of b) q ≤ most
    due_little zero q b l = l
    due_little (suc n) q b l = orders-small b n

-- a product that fits is not cut
pub whole : (c q r : ℕ) → c ≤ 100 → q ≤ most → r ≡ min (c * q) (2 ^ 64 - 1) → r ≡ c * q
whole c q r a b e = let m : c * q ≤ 100 * most = mul-le-mul a b in omega arith

-- the limit of a day, as it is read
pub top_value : (own : Kits) (L R : Service) (t : ℕ) (o : Option ℕ) → t ≡ unwrap_or o 0 → o ≡ told_limit (shared L.limit R.limit own.left.per_kit own.right.per_kit) 1 →
    t ≡ shared L.limit R.limit own.left.per_kit own.right.per_kit 1
top_value own L R t o a b = a ∙ ap (λ x. unwrap_or x 0) b ∙ told_value (shared L.limit R.limit own.left.per_kit own.right.per_kit) 1 (omega arith) (omega arith)

pub top_small : (own : Kits) (L R : Service) → Steady L → shared L.limit R.limit own.left.per_kit own.right.per_kit 1 ≤ most
top_small own L R steady = shared-small L.limit R.limit own.left.per_kit own.right.per_kit 1 most own.left.some (steady.high 1 (omega arith) (omega arith))

-- an assembly's line after a day, from the orders up to the day
pub assembly_line_step : (number number' a a' b b' early early' late late' q delivered : ℕ) (book book' : List ℕ) → early ≤ horizon → late ≤ horizon →
    number' ≡ number → a' ≡ a → b' ≡ b → early' ≡ early → late' ≡ late → book' ≡ entered q book → delivered ≡ get_or (q ∷ book) (max early late) 0 →
    assembly_line number' a' b' early' late' book' delivered ≡ assembly_line number a b early late (q ∷ book) (get_or (q ∷ book) (max early late) 0)
assembly_line_step number number' a a' b b' early early' late late' q delivered book book' x y e1 e2 e3 e4 e5 e6 e7 =
    (λ i. assembly_line (e1 i) (e2 i) (e3 i) (e4 i) (e5 i) (e6 i) (e7 i))
    ∙ (λ i. record {
      number = number;
      kind = kind.Assembly;
      order = q;
      delivery = get_or (q ∷ book) (max early late) 0;
      held = a * span_front horizon early (max early late) (q ∷ book) (omega arith) (omega arith) i + b * span_front horizon late (max early late) (q ∷ book) (omega arith) (omega arith) i;
    })

-- an assembly of two suppliers that have taken no day is tied to them from the start
side_new : (m : Meaning) (c : ℕ) (own : Kits) → Sound m → m.service.days ≡ 0 → own.days ≡ 0 → orders_of own.orders ≡ no_orders →
    Side m c (orders_of own.orders) own.days
side_new m c own sound new unused none = record {
  same =
      fresh m.service.days m.service.book sound.service.before new sound.service.long
      ∙ sym (ap (times c) none ∙ times_zeros c horizon);
  together = new ∙ sym unused;
}

none_wait : (c upto from : ℕ) (own : Kits) → orders_of own.orders ≡ no_orders → 0 ≡ c * span upto from (orders_of own.orders)
none_wait c upto from own none =
    sym (ap (λ xs. c * span upto from xs) none ∙ ap (λ n. c * n) (zeros_total horizon upto (from - upto)) ∙ mul-zero c)

pub joined_new : (left right : Meaning) (number a b : ℕ) (own : Kits) → Sound left → Sound right →
    (left.service.days ≡ 0) × (right.service.days ≡ 0) → Unkitted number a b own → Joined left right own
joined_new left right number a b own sl sr (nl, nr) e =
    let early = left.service.quote in
    let late = right.service.quote in
    record {
      left_side = side_new left own.left.per_kit own sl nl e.unused e.none;
      right_side = side_new right own.right.per_kit own sr nr e.unused e.none;
      left_waits = e.left_waits ∙ none_wait own.left.per_kit early (max early late) own e.none;
      right_waits = e.right_waits ∙ none_wait own.right.per_kit late (max early late) own e.none;
    }
