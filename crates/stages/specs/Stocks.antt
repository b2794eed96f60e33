-- What a day does to a stage's shelf and works.
use Rattle.std.specs.Prelude.{◌≡◌, ℕ, ◌+◌, ◌-◌, ◌^◌, ◌≤◌, min}
use Rattle.figures.specs.Days.{most}
use Rattle.supplier.specs.Orders.{entered, due}
use Rattle.supplier.specs.Books.{orders_of}
use Rattle.stages.specs.declared.stock.Stock.{Stock}

-- what was received enters the works, what is finished reaches the shelf, and then the delivery leaves it
pub record Restocked (own : Stock) (received delivery : ℕ) (after : Stock) : Type 0 where
  pub ledger : after.ledger ≡ own.ledger
  pub process : after.process ≡ own.process
  pub quote : after.quote ≡ own.quote
  pub base : after.base ≡ own.base
  pub shelf : after.shelf ≡ min (own.shelf + due own.process (orders_of own.works) received) (2 ^ 64 - 1) - delivery
  pub works : received ≤ most → orders_of after.works ≡ entered received (orders_of own.works)
  pub delivered : after.delivered ≡ delivery
