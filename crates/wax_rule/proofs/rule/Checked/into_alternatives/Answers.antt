use Rattle.std.proofs.Common.{rules, subst}
use Rattle.std.specs.List.{Contains}
use Rattle.wax_rule.specs.Keeping.{KeepsRules, alternative}
use Rattle.wax_rule.proofs.rule.Checked.into_alternatives.Goals as goal

pub checked_each-requires : goal.checked_each-requires
checked_each-requires g c =
    let kept : KeepsRules c.into_token.result = search rules in
    λ t among.
    alternative c.into_token.result t kept (subst (λ ts. Contains ts t) c.in_ok-tokens.ensures.all among)
