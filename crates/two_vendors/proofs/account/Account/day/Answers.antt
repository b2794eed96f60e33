use Rattle.std.proofs.Common.{◌≡◌, ◌+◌, sym, subst, arith}
use Rattle.two_vendors.specs.Balance.{Balanced}
use Rattle.two_vendors.proofs.Balancing.{balanced_day}
use Rattle.two_vendors.proofs.account.Account.day.Goals as goal

pub returns : goal.returns
returns g c =
    let s = c.args.self.now in
    let did = c.in_ok-delivery.ensures in
    let after = (g.S.Supplier.meaning c.day.new.self).service in
    record {
      stays = did.stays;
      answers = did.answers;
      lays = did.lays;
      counted = (c.saturating_add-self.ensures, c.saturating_add-self-2.ensures);
      balanced = λ v balanced.
          let a = did.answers v in
          let steady = (g.met.S.Supplier.sound s.supplier v).service in
          let d = c.in_ok-delivery.delivery in
          let n = balanced_day (g.S.Supplier.meaning s.supplier).service after c.args.q d s.ordered s.delivered steady a.0 a.1 a.2 balanced in
          let o : c.saturating_add-self.result ≡ s.ordered + c.args.q = omega (arith, n.ordered_fits, c.saturating_add-self.ensures) in
          let w : c.saturating_add-self-2.result ≡ s.delivered + d = omega (arith, n.delivered_fits, c.saturating_add-self-2.ensures) in
          subst (λ x. Balanced after x c.saturating_add-self-2.result) (sym o) (subst (λ x. Balanced after (s.ordered + c.args.q) x) (sym w) n.balanced);
    }
