use Rattle.std.proofs.{Common.{arith, rules}, lemmas.Grind.common_steps}
use Rattle.wax_rule.specs.Keeping.{KeepsRules}
use Rattle.wax_rule.proofs.Keeping.{push_keeps}
use Rattle.wax_rule.proofs.rule.checked_tokens.tokens_of.Goals as goal

pub loop-checked-preserved : goal.loop-checked-preserved
loop-checked-preserved g c =
    let kept : KeepsRules c.into_token.result = search rules in
    record {
      items = grind (arith, common_steps);
      count = grind (arith, common_steps);
      rules = push_keeps c.loop-checked.tokens.items c.push.new.self.items c.into_token.result
          c.in_ok-push.ensures.items c.loop-checked.invariant.rules kept;
    }
