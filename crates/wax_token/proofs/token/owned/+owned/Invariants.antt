use Rattle.std.proofs.Common.{◌≡◌, ◌++◌, length}
use Rattle.std.specs.Vec.Iter.{into_iter_items, into_iter_len}
use Rattle.wax_token.specs.{Syntax.{tree_size, trees_size}, Words.trees}
use Rattle.wax_token.proofs.token.owned.+owned.Given as goal

abbrev pub decreases-owned : goal.decreases-owned
decreases-owned g l = tree_size l.token

abbrev pub decreases-owned_each : goal.decreases-owned_each
decreases-owned_each g l = trees_size (trees l.tokens.items)

-- the tokens that are owned, and those that are left
abbrev pub invariant-owned_each-loop-token : goal.invariant-owned_each-loop-token
invariant-owned_each-loop-token g l = record {
  items : l.done.items ++ into_iter_items l.token-iterator ≡ l.fn.tokens.items;
  count : into_iter_len l.token-iterator ≡ length (into_iter_items l.token-iterator);
}
