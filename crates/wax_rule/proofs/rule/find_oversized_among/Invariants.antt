use Rattle.std.proofs.Common.{◌≡◌, drop}
use Rattle.wax_rule.specs.FirstBreak.{head_of, oversized_among}
use Rattle.wax_token.specs.Words.{trees}
use Rattle.wax_rule.proofs.rule.find_oversized_among.Given as goal

abbrev pub invariant-loop-token : goal.invariant-loop-token
invariant-loop-token l = head_of (oversized_among (trees (drop l.token-index l.tokens)))
    ≡ head_of (oversized_among (trees l.tokens))
