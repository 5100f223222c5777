use Rattle.std.proofs.{Common.{◌≡◌, ◌-◌, Some, length, rules, slice_get}, lemmas.Result.IfOk-weaker}
use Rattle.wax_set.proofs.Edges.{last_ends}
use Rattle.wax_set.proofs.set.edges.ends_of.Goals as goal

pub returns-in-Some : goal.returns-in-Some
returns-in-Some c =
    let tokens = c.args.tokens.now in
    let e : slice_get tokens (length tokens - 1) ≡ Some c.in-Some.token.now = search rules in
    IfOk-weaker c.ends_of_some.result _ _ (λ ends known.
    last_ends tokens c.in-Some.token.now ends.items e
    (λ before after s m. known before after s (c.alternatives_of.ensures before after s m)))
    c.ends_of_some.ensures
