use Rattle.wax_tree.proofs.ByMatcher.{seen_by_matcher}
use Rattle.wax_tree.proofs.glob_walk.matched.uncaptured_of.Goals as goal

pub returns-clause-view : goal.returns-clause-view
returns-clause-view g c =
    let same = c.in_ok-matcher.ensures in
    seen_by_matcher _ _ (g.P.Matcher.PathMatcher.decides c.in_ok-matcher.matcher)
    (g.P.Program.decides c.args.program.now)
    (g.P.Matcher.PathMatcher.goes_on c.in_ok-matcher.matcher)
    (g.P.Program.goes_on c.args.program.now) c.args.least c.args.greatest
    same.decides same.onward c.selecting.ensures.view
