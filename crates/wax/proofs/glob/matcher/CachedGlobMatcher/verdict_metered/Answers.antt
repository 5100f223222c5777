use Rattle.wax_set.proofs.Matchers.{verdict_below, verdict_means}
use Rattle.wax.proofs.glob.matcher.CachedGlobMatcher.verdict_metered.Goals as goal

pub returns-clause-means : goal.returns-clause-means
returns-clause-means g c =
    verdict_means c.args.self.now.tree c.judge.result c.args.path.now c.judge.ensures.decides

pub returns-clause-below : goal.returns-clause-below
returns-clause-below g c =
    verdict_below c.args.self.now.tree c.judge.result c.args.path.now c.judge.ensures.onward
