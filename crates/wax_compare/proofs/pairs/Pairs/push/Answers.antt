use Rattle.std.proofs.Common.{subst, sym}
use Rattle.wax_compare.specs.inner.Visiting.{AreKnown}
use Rattle.wax_compare.proofs.Knowing.{known_push}
use Rattle.wax_compare.proofs.pairs.Pairs.push.Goals as goal

pub returns-clause-known : goal.returns-clause-known
returns-clause-known c =
    subst (λ z. AreKnown z c.insert.new.self) (sym c.in_ok-push.ensures.items)
    (known_push c.args.self.now.reached.items c.args.reached c.args.self.now.known c.insert.new.self
    c.requires c.in_ok-insert.ensures.updates)
