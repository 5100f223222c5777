use Rattle.std.proofs.Common.{◌≡◌, ◌++◌, drop}
use Rattle.wax_rule.specs.inner.Queue.{siblings, neighbour_side, only_branches}
use Rattle.wax_token.specs.Words.{trees}
use Rattle.wax_rule.proofs.rule.situated.push_siblings.Given as goal

abbrev pub invariant-loop-index : goal.invariant-loop-index
invariant-loop-index l =
    l.row.items ++ only_branches
    (siblings (neighbour_side l.before) (neighbour_side l.right) (trees (drop l.index l.tokens)))
    ≡ l.initial.row.items ++ only_branches
    (siblings (neighbour_side l.fn.left) (neighbour_side l.right) (trees l.tokens))
