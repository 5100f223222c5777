use Rattle.std.proofs.Common.{◌≤◌, ◌+◌, IfOk, length, subst}
use Rattle.wax_lazy.specs.Cost.{path_visits}
use Rattle.wax_token.specs.Cost.{program_length}
use Rattle.wax_set.specs.Sets.{AreMatches}
use Rattle.wax_set.proofs.set.matcher.SetMatcher.matches_into_metered.Goals as goal

pub returns-clause-matches : goal.returns-clause-matches
returns-clause-matches g c =
    subst
    (λ t. IfOk c.list_matches.result (λ _. AreMatches t c.args.path.now c.list_matches.new.indexes.items))
    c.self.view_is c.list_matches.ensures.matches

pub returns-clause-above : goal.returns-clause-above
returns-clause-above g c =
    subst (λ t. c.list_matches.new.meter ≤ c.args.meter.now + path_visits (program_length t)
    (length c.args.path.now) + program_length t) c.self.view_is c.list_matches.ensures.above
