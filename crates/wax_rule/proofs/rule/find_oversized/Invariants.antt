use Rattle.std.proofs.Common.{◌≡◌, drop}
use Rattle.wax_rule.specs.FirstBreak.{head_of, oversized_inside}
use Rattle.wax_rule.proofs.rule.find_oversized.Given as goal

abbrev pub invariant-loop-token : goal.invariant-loop-token
invariant-loop-token l =
    head_of (oversized_inside (drop l.token-index l.row)) ≡ head_of (oversized_inside l.row)
