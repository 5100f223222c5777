use Rattle.std.proofs.Common.{◌≡◌, ◌+◌, ◌≤◌, IfOk, false, length, subst}
use Rattle.wax_lazy.specs.Cost.{first_visits, path_visits}
use Rattle.wax_token.specs.{Cost.program_length, Decided.means_test}
use Rattle.wax_prefilter.specs.Below.{goes_test}
use Rattle.wax_set.proofs.set.matcher.SetMatcher.judge.Goals as goal

pub returns-clause-decides : goal.returns-clause-decides
returns-clause-decides g c =
    subst (λ v. IfOk c.verdict_cached.result (λ a. a.is_match
    ≡ means_test v false false c.args.path.now)) c.self.view_is c.verdict_cached.ensures.decides

pub returns-clause-onward : goal.returns-clause-onward
returns-clause-onward g c =
    subst (λ v. IfOk c.verdict_cached.result (λ a. a.goes_on ≡ goes_test v c.args.most c.args.path.now))
    c.self.view_is c.verdict_cached.ensures.onward

pub returns-clause-above : goal.returns-clause-above
returns-clause-above g c =
    subst (λ t. c.verdict_cached.new.meter ≤ c.args.meter.now + first_visits (program_length t) c.args.most
    + path_visits (program_length t) (length c.args.path.now)) c.self.view_is
    c.verdict_cached.ensures.above
