use Rattle.std.proofs.Common.{◌≡◌, drop}
use Rattle.wax_rule.specs.FirstBreak.{head_of}
use Rattle.wax_facts.specs.Rules.{alternative_breaks}
use Rattle.wax_token.specs.Words.{trees}
use Rattle.wax_rule.proofs.rule.branch.alternative_break.Given as goal

abbrev pub invariant-loop-sub_glob : goal.invariant-loop-sub_glob
invariant-loop-sub_glob l =
    head_of (alternative_breaks l.span l.left l.right (trees (drop l.sub_glob-index l.branches)))
    ≡ head_of (alternative_breaks l.span l.left l.right (trees l.branches))
