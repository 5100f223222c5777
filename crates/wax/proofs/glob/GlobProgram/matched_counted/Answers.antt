use Rattle.std.proofs.Common.{◌≡◌, ◌≤◌, false, chars, IfOk, IfSome, IsTrue, length, sym, ap, subst, rules}
use Rattle.wax_token.specs.Meaning.{Means}
use Rattle.wax.proofs.glob.GlobProgram.matched_counted.Goals as goal

pub returns-then-not-may_match-clause-matched : goal.returns-then-not-may_match-clause-matched
returns-then-not-may_match-clause-matched c meant =
    let text = chars c.as_str-text.result.now in
    let tree : c.self.inside.checked.token ≡ c.args.self.now.tree = ap (λ g. g.tree) c.self.view_is in
    let same : Means c.self.inside.checked.token false false text =
    subst (λ t. Means t false false text) (sym tree)
    (subst (λ s. Means c.args.self.now.tree false false s) (sym c.as_str-text.ensures) meant) in
    let passes : IsTrue c.may_match.result =
    c.may_match.ensures ((c.self.invariant.compiled.accepts text).1 same) in
    absurd (search (rules, passes))

pub returns-clause-below : goal.returns-clause-below
returns-clause-below c =
    subst (λ z. IfOk c.matched_counted.result (λ r. IfSome r.0 (λ _. length z ≤ r.1))) c.as_str-text.ensures
    c.matched_counted.ensures.below
