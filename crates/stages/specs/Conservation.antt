-- The base stock of a stage and what it has received since day 1 are what it has delivered and what it holds.
-- It is said of all orders from day 1, the newest first, of which the stage's book has the last.
use Rattle.std.specs.Prelude.{◌≡◌, ℕ, ◌+◌, List}
use Rattle.figures.specs.Days.{horizon}
use Rattle.supplier.specs.Orders.{recent, delivered}
use Rattle.supplier.specs.Meaning.{Meaning}
use Rattle.stages.specs.declared.goods.Goods.{Goods}
use Rattle.stages.specs.declared.stock.Stock.{Stock}
use Rattle.stages.specs.Stages.{book_of}

-- a stage: the base stock and what came from below are what was delivered, what is on the shelf and what is in process
abbrev pub StageConserves : Meaning → Stock → Goods → Type 0
StageConserves below own goods =
    (orders : List ℕ) → book_of own ≡ recent horizon orders →
    own.base + delivered below.service.quote orders ≡ delivered own.quote orders + goods.on_shelf + goods.in_process
