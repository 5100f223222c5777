use Rattle.std.proofs.Common.{None, rules, ◌≡◌}
use Rattle.wax_facts.specs.Rules.{broken}
use Rattle.wax_rule.specs.{FirstBreak.head_of, Keeping.unbroken}
use Rattle.wax_rule.proofs.Keeping.{no_break}
use Rattle.wax_rule.proofs.rule.check.Goals as goal

pub invariant_of-result : goal.invariant_of-result
invariant_of-result c =
    let none : None ≡ head_of (broken c.args.tokenized.token) = search rules in
    unbroken c.args.tokenized.token (no_break (broken c.args.tokenized.token) none)
