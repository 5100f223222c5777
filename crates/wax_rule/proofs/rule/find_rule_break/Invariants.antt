use Rattle.std.proofs.Common.{◌≡◌, drop}
use Rattle.std.specs.List.{flat_map}
use Rattle.wax_rule.specs.FirstBreak.{breaks_of, head_of}
use Rattle.wax_rule.proofs.rule.find_rule_break.Given as goal

abbrev pub invariant-loop-token : goal.invariant-loop-token
invariant-loop-token l = head_of (flat_map (breaks_of l.rule) (drop l.token-index l.row))
    ≡ head_of (flat_map (breaks_of l.rule) l.row)
