use Rattle.std.proofs.Common.{◌≡◌, ◌++◌, drop}
use Rattle.wax_token.specs.{Syntax.{tree_size, trees_size}, Words.trees}
use Rattle.wax_token.proofs.token.copied.+copied.Given as goal

abbrev pub decreases-copied : goal.decreases-copied
decreases-copied g l = tree_size l.token.now

abbrev pub decreases-copied_each : goal.decreases-copied_each
decreases-copied_each g l = trees_size (trees l.tokens.now)

-- the copies, and the tokens that are left
abbrev pub invariant-copied_each-loop-token : goal.invariant-copied_each-loop-token
invariant-copied_each-loop-token g l = l.done.items ++ drop l.token-index l.tokens ≡ l.tokens
