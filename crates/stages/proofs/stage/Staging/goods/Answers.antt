use Rattle.std.proofs.Common.{◌≡◌, refl, rules}
use Rattle.figures.specs.Days.{window}
use Rattle.supplier.specs.Books.{orders_of}
use Rattle.stages.proofs.Conserving.{stage_conserves}
use Rattle.stages.proofs.stage.Staging.goods.Goals as goal

pub returns-clause-conserves : goal.returns-clause-conserves
returns-clause-conserves g c tied =
    let s = c.args.self.now in
    let e : c.unwrap_or.result ≡ window s.own.process (orders_of s.own.works) = search rules in
    stage_conserves (g.S.Supplier.meaning s.below) s.own (record { on_shelf = s.own.shelf; in_process = c.unwrap_or.result }) refl e tied
