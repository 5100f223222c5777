use Rattle.std.proofs.Common.{◌≡◌, Some, drop}
use Rattle.wax_token.specs.{Syntax.{tree_size, trees_size}, Words.trees}
use Rattle.wax_facts.specs.Sizes.{are_of_size, option_sum, total_size}
use Rattle.wax_rule.proofs.rule.size.+sizes.Given as goal

abbrev pub decreases-fixed_size : goal.decreases-fixed_size
decreases-fixed_size g l = tree_size l.token.now

abbrev pub decreases-total_size : goal.decreases-total_size
decreases-total_size g l = trees_size (trees l.tokens.now)

abbrev pub decreases-common_size : goal.decreases-common_size
decreases-common_size g l = trees_size (trees l.tokens.now)

abbrev pub invariant-total_size-loop-token : goal.invariant-total_size-loop-token
invariant-total_size-loop-token g l =
    option_sum (Some l.total) (total_size (trees (drop l.token-index l.tokens))) ≡ total_size (trees l.tokens)

abbrev pub decreases-are_of_size : goal.decreases-are_of_size
decreases-are_of_size g l = trees_size (trees l.tokens.now)

abbrev pub invariant-are_of_size-loop-token : goal.invariant-are_of_size-loop-token
invariant-are_of_size-loop-token g l =
    are_of_size l.size (trees (drop l.token-index l.tokens)) ≡ are_of_size l.size (trees l.tokens)
