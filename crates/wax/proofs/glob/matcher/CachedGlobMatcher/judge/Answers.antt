use Rattle.std.proofs.Common.{◌≡◌, ◌+◌, ◌≤◌, IfOk, false, length, subst, sym}
use Rattle.wax.specs.GlobView.{IsMeant}
use Rattle.wax_lazy.specs.Cost.{first_visits, path_visits}
use Rattle.wax_prefilter.specs.Below.{goes_test}
use Rattle.wax_token.specs.{Cost.program_length, Decided.means_test}
use Rattle.wax.proofs.glob.matcher.CachedGlobMatcher.judge.Goals as goal

pub invariant_of-self : goal.invariant_of-self
invariant_of-self g c = λ all text. subst (λ v. IsMeant v text) (sym c.verdict_cached.ensures.same)
    (c.self.invariant all text)

pub returns-clause-decides : goal.returns-clause-decides
returns-clause-decides g c =
    subst (λ v. IfOk c.verdict_cached.result (λ a. a.is_match
    ≡ means_test v.tree false false c.args.path.now)) c.self.view_is c.verdict_cached.ensures.decides

pub returns-clause-onward : goal.returns-clause-onward
returns-clause-onward g c =
    subst (λ v. IfOk c.verdict_cached.result (λ a. a.goes_on ≡ goes_test v.tree c.args.most c.args.path.now))
    c.self.view_is c.verdict_cached.ensures.onward

pub returns-clause-above : goal.returns-clause-above
returns-clause-above g c =
    subst (λ v. c.verdict_cached.new.meter ≤ c.args.meter.now + first_visits (program_length v.tree)
    c.args.most
    + path_visits (program_length v.tree) (length c.args.path.now)) c.self.view_is
    c.verdict_cached.ensures.above
