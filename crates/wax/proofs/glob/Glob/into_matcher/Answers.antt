use Rattle.std.proofs.Common.{false, subst}
use Rattle.wax_token.specs.Meaning.{Means}
use Rattle.wax.proofs.glob.Glob.into_matcher.Goals as goal

pub invariant_of-result : goal.invariant_of-result
invariant_of-result c = λ known text.
    subst (λ t. Means t false false text) c.token.ensures.same
    (c.is_everything-matches_all.ensures.all known text)
