use Rattle.std.proofs.Common.{◌↔◌, IsTrue, subst, sym}
use Rattle.wax_compare.specs.inner.Visiting.{HasPair}
use Rattle.wax_compare.proofs.pairs.Pairs.contains.Goals as goal

pub returns : goal.returns
returns c = subst (λ b. IsTrue b ↔ HasPair c.args.self.now.reached.items c.args.pair)
    (sym c.contains.ensures) (c.requires c.args.pair)
