use Rattle.std.proofs.Common.{◌↔◌, ◌+◌, ◌≤◌, IfOk, IsTrue, false, length, subst}
use Rattle.wax_lazy.specs.Cost.{path_visits}
use Rattle.wax_token.specs.{Cost.program_length, Decided.means_tested}
use Rattle.wax_set.specs.Sets.{MeansText}
use Rattle.wax_set.proofs.Matchers.{decided_alike}
use Rattle.wax_set.proofs.set.matcher.SetMatcher.is_match_metered.Goals as goal

pub returns-clause-means : goal.returns-clause-means
returns-clause-means g c =
    subst (λ t. IfOk c.is_match_cached.result (λ b. IsTrue b ↔ MeansText t c.args.path.now)) c.self.view_is
    c.is_match_cached.ensures.means

pub returns-clause-decides : goal.returns-clause-decides
returns-clause-decides g c =
    decided_alike c.is_match_cached.result _ (means_tested c.args.self.now false false c.args.path.now)
    (returns-clause-means g c)

pub returns-clause-above : goal.returns-clause-above
returns-clause-above g c =
    subst (λ t. c.is_match_cached.new.meter
    ≤ c.args.meter.now + path_visits (program_length t) (length c.args.path.now)) c.self.view_is
    c.is_match_cached.ensures.above
