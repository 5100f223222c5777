use Rattle.std.proofs.Common.{◌≡◌, ◌≤◌, ◌*◌, ◌+◌, ◌++◌, length, map, reverse}
use Rattle.wax_token.specs.{Syntax.{tree_size, trees_size}, View.branch_tree, Words.trees}
use Rattle.wax_rule.specs.Shifted.{shifted_tree}
use Rattle.wax_partition.proofs.shift.+shifted.Given as goal

abbrev pub decreases-shifted : goal.decreases-shifted
decreases-shifted l = 3 * tree_size l.token + 1

abbrev pub decreases-shifted_branch : goal.decreases-shifted_branch
decreases-shifted_branch l = 3 * tree_size (branch_tree l.branch (0, 0))

abbrev pub decreases-shifted_each : goal.decreases-shifted_each
decreases-shifted_each l = 3 * trees_size (trees l.tokens.items)

-- the tokens still to be shifted, and those that are, from the last one on
abbrev pub invariant-shifted_each-loop-token : goal.invariant-shifted_each-loop-token
invariant-shifted_each-loop-token l = record {
  fewer : trees_size (trees l.tokens.items) ≤ trees_size (trees l.fn.tokens.items);
  done : map (shifted_tree l.bytes) l.tokens.items ++ reverse l.done.items
      ≡ map (shifted_tree l.bytes) l.fn.tokens.items;
}

abbrev pub decreases-shifted_each-loop-token : goal.decreases-shifted_each-loop-token
decreases-shifted_each-loop-token l = length l.tokens.items
