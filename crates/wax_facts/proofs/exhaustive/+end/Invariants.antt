use Rattle.std.proofs.Common.{◌≡◌, ◌<◌, drop, length}
use Rattle.wax_token.specs.{Syntax.{tree_size, trees_size}, Words.trees}
use Rattle.wax_facts.specs.Exhaustive.{exhaustive_some}
use Rattle.wax_facts.proofs.exhaustive.+end.Given as goal

abbrev pub decreases-exhaustive_of : goal.decreases-exhaustive_of
decreases-exhaustive_of g l = tree_size l.token.now

abbrev pub decreases-exhaustive_of_last : goal.decreases-exhaustive_of_last
decreases-exhaustive_of_last g l = trees_size (trees l.tokens.now)

abbrev pub decreases-exhaustive_of_branches : goal.decreases-exhaustive_of_branches
decreases-exhaustive_of_branches g l = trees_size (trees l.tokens.now)

abbrev pub invariant-exhaustive_of_branches-loop-index : goal.invariant-exhaustive_of_branches-loop-index
invariant-exhaustive_of_branches-loop-index g l = record {
  within : l.index < length l.tokens;
  common : l.common ≡ exhaustive_some (trees (drop l.index l.tokens));
}

abbrev pub decreases-exhaustive_of_branches-loop-index : goal.decreases-exhaustive_of_branches-loop-index
decreases-exhaustive_of_branches-loop-index g l = l.index
