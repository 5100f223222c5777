use Rattle.std.proofs.Common.{false, subst}
use Rattle.wax_query.specs.Parts.{NoLineEndsBefore}
use Rattle.wax_token.specs.Decided.{means_test}
use Rattle.wax.proofs.glob.matcher.CachedGlobMatcher.earliest_end.Goals as goal

pub returns-in-None : goal.returns-in-None
returns-in-None g c =
    subst (λ v. NoLineEndsBefore (means_test v.tree false false) c.args.text.now c.earliest_end.result)
    c.self.view_is c.earliest_end.ensures
