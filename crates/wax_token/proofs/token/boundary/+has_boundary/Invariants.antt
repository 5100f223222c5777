use Rattle.std.proofs.Common.{◌≡◌, drop}
use Rattle.wax_token.specs.{Kinds.some_has_boundary, Syntax.{tree_size, trees_size}, Words.trees}
use Rattle.wax_token.proofs.token.boundary.+has_boundary.Given as goal

abbrev pub decreases-has_boundary : goal.decreases-has_boundary
decreases-has_boundary g l = tree_size l.token.now

abbrev pub decreases-some_has_boundary : goal.decreases-some_has_boundary
decreases-some_has_boundary g l = trees_size (trees l.tokens.now)

abbrev pub invariant-some_has_boundary-loop-token : goal.invariant-some_has_boundary-loop-token
invariant-some_has_boundary-loop-token g l =
    some_has_boundary (trees (drop l.token-index l.tokens)) ≡ some_has_boundary (trees l.tokens)
