use Rattle.std.proofs.Common.{◌-◌, ◌++◌, arith, length-append}
use Rattle.std.proofs.lemmas.List.{length-take}
use Rattle.supplier.specs.Meaning.{most_lines}
use Rattle.assemblies.proofs.assembly.supplying.AssemblingSupplier.lines.Goals as goal

pub returns : goal.returns
returns g c v =
    let left = g.L.Supplier.meaning c.args.self.now.left in
    let right = g.R.Supplier.meaning c.args.self.now.right in
    let l = length-take (most_lines - 1) (left.sheet ++ right.sheet) in
    let a = length-append left.sheet right.sheet in
    omega (arith, (g.met.L.Supplier.sound c.args.self.now.left v.0).few, (g.met.R.Supplier.sound c.args.self.now.right v.1).few)
