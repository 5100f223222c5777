use Rattle.std.proofs.Common.{◌≡◌, ◌+◌, ◌*◌, drop, length}
use Rattle.wax_token.specs.{Syntax.{tree_size, trees_size}, View.branch_tree, Words.trees}
use Rattle.wax_token.proofs.token.same.+same.Given as goal

abbrev pub decreases-same : goal.decreases-same
decreases-same l = 2 * tree_size l.token.now + 1

abbrev pub decreases-same_branch : goal.decreases-same_branch
decreases-same_branch l = 2 * tree_size (branch_tree l.branch.now (0, 0))

abbrev pub decreases-same_each : goal.decreases-same_each
decreases-same_each l = 2 * trees_size (trees l.tokens.now) + 1

-- the tokens are the same where those that are left are
abbrev pub invariant-same_each-loop-index : goal.invariant-same_each-loop-index
invariant-same_each-loop-index l = record {
  count : length l.tokens ≡ length l.others;
  left : drop l.index l.tokens ≡ drop l.index l.others → l.tokens ≡ l.others;
}
