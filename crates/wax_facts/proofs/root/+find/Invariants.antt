use Rattle.std.proofs.Common.{◌≡◌, ◌<◌, drop, length}
use Rattle.wax_token.specs.{Syntax.{tree_size, trees_size}, Words.trees}
use Rattle.wax_facts.specs.Root.{root_some}
use Rattle.wax_facts.proofs.root.+find.Given as goal

abbrev pub decreases-root_of : goal.decreases-root_of
decreases-root_of g l = tree_size l.token.now

abbrev pub decreases-root_of_first : goal.decreases-root_of_first
decreases-root_of_first g l = trees_size (trees l.tokens.now)

abbrev pub decreases-root_of_branches : goal.decreases-root_of_branches
decreases-root_of_branches g l = trees_size (trees l.tokens.now)

abbrev pub invariant-root_of_branches-loop-index : goal.invariant-root_of_branches-loop-index
invariant-root_of_branches-loop-index g l = record {
  within : l.index < length l.tokens;
  common : l.common ≡ root_some (trees (drop l.index l.tokens));
}

abbrev pub decreases-root_of_branches-loop-index : goal.decreases-root_of_branches-loop-index
decreases-root_of_branches-loop-index g l = l.index
