use Rattle.std.proofs.Common.{◌≡◌, ◌+◌, ◌*◌, ◌≤◌, ◌||◌, drop, min}
use Rattle.wax_match.specs.inner.Limits.{longest}
use Rattle.wax_token.specs.{Cost.{costs, some_holds_tree}, Syntax.{tree_size, trees_size}, Words.trees}
use Rattle.wax_match.proofs.encode.cost.+weigh.Given as goal

abbrev pub decreases-weigh : goal.decreases-weigh
decreases-weigh g l = 2 * tree_size l.token.now

abbrev pub decreases-weigh_all : goal.decreases-weigh_all
decreases-weigh_all g l = 2 * trees_size (trees l.tokens.now)

abbrev pub decreases-weigh_branches : goal.decreases-weigh_branches
decreases-weigh_branches g l = 2 * trees_size (trees l.tokens.now) + 1

abbrev pub invariant-weigh_all-loop-token : goal.invariant-weigh_all-loop-token
invariant-weigh_all-loop-token g l = record {
  small : l.cost ≤ longest;
  cost : min (l.cost + costs (trees (drop l.token-index l.tokens))) longest
      ≡ min (costs (trees l.tokens)) longest;
  holds_tree : (l.holds_tree || some_holds_tree (trees (drop l.token-index l.tokens)))
      ≡ some_holds_tree (trees l.tokens);
}
