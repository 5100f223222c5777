use Rattle.std.proofs.Common.{◌≡◌, drop}
use Rattle.wax_partition.specs.inner.Flatness.{branches_are_flat, members_are_flat}
use Rattle.wax_token.specs.{Syntax.{tree_size, trees_size}, Words.trees}
use Rattle.wax_partition.proofs.flat.+flat.Given as goal

abbrev pub decreases-is_flat : goal.decreases-is_flat
decreases-is_flat g l = tree_size l.token.now

abbrev pub decreases-branches_are_flat : goal.decreases-branches_are_flat
decreases-branches_are_flat g l = trees_size (trees l.tokens.now)

abbrev pub invariant-branches_are_flat-loop-token : goal.invariant-branches_are_flat-loop-token
invariant-branches_are_flat-loop-token g l =
    branches_are_flat (trees (drop l.token-index l.tokens)) ≡ branches_are_flat (trees l.tokens)

abbrev pub decreases-members_are_flat : goal.decreases-members_are_flat
decreases-members_are_flat g l = trees_size (trees l.tokens.now)

abbrev pub invariant-members_are_flat-loop-token : goal.invariant-members_are_flat-loop-token
invariant-members_are_flat-loop-token g l =
    members_are_flat (trees (drop l.token-index l.tokens)) ≡ members_are_flat (trees l.tokens)
