use Rattle.wax.proofs.Excluding.{comes_ignoring}
use Rattle.wax.proofs.exclusions.excluding_ignored.Goals as goal

pub returns-clause-comes : goal.returns-clause-comes
returns-clause-comes g c =
    comes_ignoring g.I.Directory.Directory.law _ _ c.args.list c.excluding.ensures.view
