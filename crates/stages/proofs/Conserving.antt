-- The base stock of a stage and what it has received are what it has delivered and what it holds.
use Rattle.std.proofs.Common.{◌≡◌, ◌+◌, arith}
use Rattle.figures.specs.Days.{window}
use Rattle.supplier.specs.Books.{orders_of}
use Rattle.supplier.specs.Meaning.{Meaning}
use Rattle.layers.proofs.Rows.{in_row}
use Rattle.layers.proofs.Conserving.{between}
use Rattle.stages.specs.declared.stock.Stock.{Stock}
use Rattle.stages.specs.declared.goods.Goods.{Goods}
use Rattle.stages.specs.Stages.{Tied, book_of}
use Rattle.stages.specs.Conservation.{StageConserves}

pub stage_conserves : (m : Meaning) (own : Stock) (goods : Goods) → goods.on_shelf ≡ own.shelf →
    goods.in_process ≡ window own.process (orders_of own.works) → Tied m own → StageConserves m own goods
stage_conserves m own goods s p v orders b =
    let from = m.service.quote + own.process in
    let x = between m.service.quote from (book_of own) orders b (omega arith) v.within in
    let y = between own.quote from (book_of own) orders b v.early v.within in
    let z = in_row m.service.quote own.process (orders_of own.works) (book_of own) v.coming in
    let stock = v.stock in
    omega arith
