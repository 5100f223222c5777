use Rattle.std.proofs.Common.{chars, sym, subst}
use Rattle.wax_set.specs.Sets.{MeansText}
use Rattle.wax_set.proofs.set.Any.may_match_quickly.Goals as goal

pub returns : goal.returns
returns c meant =
    let text = chars c.as_str.result.now in
    let same : MeansText c.args.self.now text =
    subst (MeansText c.args.self.now) (sym c.as_str.ensures) meant in
    let here : MeansText c.self.inside.token text = subst (λ t. MeansText t text) (sym c.self.view_is) same in
    c.may_accept.ensures ((c.self.invariant.compiled.accepts text).1 here)
