use Rattle.std.proofs.Common.{◌≡◌, ◌||◌, drop}
use Rattle.wax_rule.specs.inner.Queue.{is_found_at_some}
use Rattle.wax_token.specs.{Kinds.{is_boundary_leaf, is_zero_or_more_leaf}, Syntax.{tree_size, trees_size}}
use Rattle.wax_token.specs.Words.{trees}
use Rattle.wax_rule.proofs.rule.situated.+found_at.Given as goal

abbrev pub decreases-found_at : goal.decreases-found_at
decreases-found_at l = tree_size l.token.now

abbrev pub decreases-found_at_any : goal.decreases-found_at_any
decreases-found_at_any l = trees_size (trees l.tokens.now)

abbrev pub invariant-found_at_any-loop-token : goal.invariant-found_at_any-loop-token
invariant-found_at_any-loop-token l = record {
  boundary : (l.found.boundary || is_found_at_some l.end is_boundary_leaf
      (trees (drop l.token-index l.tokens))) ≡ is_found_at_some l.end is_boundary_leaf (trees l.tokens);
  zero_or_more : (l.found.zero_or_more || is_found_at_some l.end is_zero_or_more_leaf
      (trees (drop l.token-index l.tokens))) ≡ is_found_at_some l.end is_zero_or_more_leaf (trees l.tokens);
}
