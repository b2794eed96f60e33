-- What a day does to an assembly's own figures.
use Rattle.std.specs.Prelude.{◌≡◌, ℕ, ◌+◌, ◌-◌, ◌*◌, ◌^◌, ◌<◌, ◌≤◌}
use Rattle.figures.specs.Days.{most}
use Rattle.supplier.specs.Orders.{term, entered}
use Rattle.supplier.specs.Books.{orders_of}
use Rattle.assemblies.specs.declared.part.Part.{Part}
use Rattle.assemblies.specs.declared.kits.Kits.{Kits}

-- the parts received wait, and those of the kits that are due are used
pub record Kept (part : Part) (received kits : ℕ) (after : Part) : Type 0 where
  pub per_kit : after.per_kit ≡ part.per_kit
  pub waiting : part.per_kit * kits < 2 ^ 64 → part.waiting + received < 2 ^ 64 → after.waiting ≡ part.waiting + received - part.per_kit * kits

-- the order is entered, the parts received wait, and those of the kits due are used
pub record Assembled (own : Kits) (q from-left from-right delivery : ℕ) (after : Kits) : Type 0 where
  pub number : after.number ≡ own.number
  pub left : Kept own.left from-left delivery after.left
  pub right : Kept own.right from-right delivery after.right
  pub orders : q ≤ most → orders_of after.orders ≡ entered q (orders_of own.orders)
  pub days : own.days < term → after.days ≡ own.days + 1
  pub delivered : after.delivered ≡ delivery
