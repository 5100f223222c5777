use Rattle.wax_test_uses.proofs.SetMatches.{keeps_matches}
use Rattle.wax_test_uses.proofs.sets.collect_matches.Goals as goal

pub returns : goal.returns
returns g c = keeps_matches g.P.Pattern.spells c.args.patterns.items g.D.Directory.law c.args.directory
    c.in_ok-collect.field-0.1 _ _ _ c.in_ok-set.ensures c.in_ok-walk.ensures.begins c.law_of_wanted.ensures
    c.in_ok-collect.ensures.wanted
