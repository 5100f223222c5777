use Rattle.std.proofs.Common.{false, subst}
use Rattle.wax_query.specs.Parts.{NoLineEndsBefore}
use Rattle.wax_token.specs.Decided.{means_test}
use Rattle.wax.proofs.glob.borrowed.BorrowedGlobCachedGlob.earliest_end.Goals as goal

pub returns : goal.returns
returns c =
    subst (λ g. NoLineEndsBefore (means_test g.tree false false) c.args.text.now c.earliest_end.result)
    c.self.view_is c.earliest_end.ensures
