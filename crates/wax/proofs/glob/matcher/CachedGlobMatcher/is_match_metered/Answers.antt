use Rattle.std.proofs.Common.{◌↔◌, ◌+◌, ◌≤◌, IfOk, IsTrue, length, true, false, refl, sym, subst, rules}
use Rattle.wax_lazy.specs.Cost.{path_visits}
use Rattle.wax_token.specs.{Cost.program_length, Decided.means_tested}
use Rattle.wax.specs.GlobView.{IsMeant}
use Rattle.wax_set.proofs.Matchers.{decided_alike, same_truth}
use Rattle.wax.proofs.glob.matcher.CachedGlobMatcher.is_match_metered.Goals as goal

pub returns-then-self-clause-means : goal.returns-then-self-clause-means
returns-then-self-clause-means g c = (
  λ _. subst (λ v. IsMeant v c.args.path.now) c.self.view_is
      (c.self.invariant (search rules) c.args.path.now),
  λ _. refl,
)

pub returns-then-self-clause-decides : goal.returns-then-self-clause-decides
returns-then-self-clause-decides g c =
    same_truth true _ (returns-then-self-clause-means g c)
    (means_tested c.args.self.now.tree false false c.args.path.now)

pub invariant_of-self : goal.invariant_of-self
invariant_of-self g c = λ all text. subst (λ v. IsMeant v text) (sym c.is_match_cached.ensures.same)
    (c.self.invariant all text)

pub returns-clause-means : goal.returns-clause-means
returns-clause-means g c =
    subst (λ v. IfOk c.is_match_cached.result (λ b. IsTrue b ↔ IsMeant v c.args.path.now)) c.self.view_is
    c.is_match_cached.ensures.means

pub returns-clause-decides : goal.returns-clause-decides
returns-clause-decides g c =
    decided_alike c.is_match_cached.result _ (means_tested c.args.self.now.tree false false c.args.path.now)
    (returns-clause-means g c)

pub returns-clause-above : goal.returns-clause-above
returns-clause-above g c =
    subst (λ v. c.is_match_cached.new.meter
    ≤ c.args.meter.now + path_visits (program_length v.tree) (length c.args.path.now)) c.self.view_is
    c.is_match_cached.ensures.above
