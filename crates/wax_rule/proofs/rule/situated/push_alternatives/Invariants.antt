use Rattle.std.proofs.Common.{◌≡◌, ◌++◌, drop}
use Rattle.wax_rule.specs.inner.Queue.{branches, neighbour_side, only_branches}
use Rattle.wax_token.specs.Words.{trees}
use Rattle.wax_rule.proofs.rule.situated.push_alternatives.Given as goal

abbrev pub invariant-loop-token : goal.invariant-loop-token
invariant-loop-token l =
    l.row.items ++ only_branches
    (branches (neighbour_side l.left) (neighbour_side l.right) (trees (drop l.token-index l.tokens)))
    ≡ l.initial.row.items ++ only_branches
    (branches (neighbour_side l.left) (neighbour_side l.right) (trees l.tokens))
