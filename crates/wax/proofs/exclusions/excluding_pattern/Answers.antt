use Rattle.wax.proofs.Excluding.{comes_excluding_pattern, excludes_pattern}
use Rattle.wax.proofs.exclusions.excluding_pattern.Goals as goal

pub returns-in-Ok-clause-comes : goal.returns-in-Ok-clause-comes
returns-in-Ok-clause-comes g c =
    comes_excluding_pattern g.I.Directory.Directory.law _ _ _ _ c.in-Ok.ensures c.excluding.ensures.view

pub returns-in-Ok-clause-excludes : goal.returns-in-Ok-clause-excludes
returns-in-Ok-clause-excludes g c =
    (excludes_pattern _ _ _ _ c.in-Ok.ensures c.excluding.ensures.view, c.excluding.ensures.ends)
