use Rattle.std.proofs.Common.{refl}
use Rattle.two_vendors.proofs.Balancing.{balanced_open}
use Rattle.two_vendors.proofs.account.Account.open.Goals as goal

pub returns : goal.returns
returns g c = record {
  same = refl;
  empty = (refl, refl);
  balanced = λ v new. balanced_open (g.S.Supplier.meaning c.args.supplier).service (g.met.S.Supplier.sound c.args.supplier v).service new;
}
