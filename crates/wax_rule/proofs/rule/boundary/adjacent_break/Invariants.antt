use Rattle.std.proofs.Common.{◌≡◌, ◌-◌, drop}
use Rattle.wax_facts.specs.Rules.{adjacent_boundaries}
use Rattle.wax_rule.specs.FirstBreak.{head_of}
use Rattle.wax_token.specs.Words.{trees}
use Rattle.wax_rule.proofs.rule.boundary.adjacent_break.Given as goal

abbrev pub invariant-loop-index : goal.invariant-loop-index
invariant-loop-index l =
    head_of (adjacent_boundaries (trees (drop (l.index - 1) l.tokens)))
    ≡ head_of (adjacent_boundaries (trees l.tokens))
