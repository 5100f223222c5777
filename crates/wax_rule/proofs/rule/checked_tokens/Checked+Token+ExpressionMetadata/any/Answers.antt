use Rattle.std.proofs.Common.{rules, subst, sym, ◌≡◌}
use Rattle.wax_rule.specs.Keeping.{KeepsRules, combined}
use Rattle.wax_token.specs.{Syntax.alternation, Words.trees}
use Rattle.wax_rule.proofs.rule.checked_tokens.Checked+Token+ExpressionMetadata.any.Goals as goal

pub invariant_of-result : goal.invariant_of-result
invariant_of-result g c =
    let tokens = c.in_ok-tokens_of.field-0.items in
    let is : c.new_branch.result ≡ alternation (0, 0) (trees tokens) = search rules in
    subst KeepsRules (sym is) (combined tokens c.in_ok-tokens_of.ensures.rules)
