use Rattle.std.proofs.Common.{ℕ, ◌≤◌, Bool, List, ◌⊎◌, length, drop}
use Rattle.wax_token.specs.{Meaning.MeansSome, Syntax.{tree_size, trees_size}, Words.trees}
use Rattle.wax_prefilter.proofs.Lengths.{LeftAfter}
use Rattle.wax_prefilter.proofs.least.+least_of.Given as goal

abbrev pub decreases-least_of : goal.decreases-least_of
decreases-least_of l = tree_size l.token.now

abbrev pub decreases-least_of_each : goal.decreases-least_of_each
decreases-least_of_each l = trees_size (trees l.tokens.now)

abbrev pub decreases-least_of_some : goal.decreases-least_of_some
decreases-least_of_some l = trees_size (trees l.tokens.now)

abbrev pub invariant-least_of_each-loop-token : goal.invariant-least_of_each-loop-token
invariant-least_of_each-loop-token l = LeftAfter l.tokens l.token-index l.sum

-- a text that is meant is long enough, or a later branch means it
abbrev pub invariant-least_of_some-loop-token : goal.invariant-least_of_some-loop-token
invariant-least_of_some-loop-token l = (before after : Bool) (text : List ℕ)
    → MeansSome (trees l.tokens) before after text
    → (l.least ≤ length text) ⊎ MeansSome (trees (drop l.token-index l.tokens)) before after text
