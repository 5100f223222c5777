use Rattle.std.proofs.Common.{ℕ, ◌+◌, ◌*◌, Bool, List, ◌⊎◌, drop}
use Rattle.wax_token.specs.{Meaning.MeansSome, Syntax.{tree_size, trees_size}, Words.trees}
use Rattle.wax_prefilter.specs.{Facts.ContainsOne, Known.CanBeAfter}
use Rattle.wax_prefilter.proofs.facts.+needles_of.Given as goal

abbrev pub decreases-needles_of : goal.decreases-needles_of
decreases-needles_of l = 2 * tree_size l.token.now

abbrev pub decreases-needles_of_each : goal.decreases-needles_of_each
decreases-needles_of_each l = 2 * trees_size (trees l.tokens.now) + 1

abbrev pub decreases-needles_of_any : goal.decreases-needles_of_any
decreases-needles_of_any l = 2 * trees_size (trees l.tokens.now)

abbrev pub decreases-needles_of_some : goal.decreases-needles_of_some
decreases-needles_of_some l = 2 * trees_size (trees l.tokens.now)

-- a text that is meant holds one of these, or a later branch means it
abbrev pub invariant-needles_of_some-loop-token : goal.invariant-needles_of_some-loop-token
invariant-needles_of_some-loop-token l = (before after : Bool) (text : List ℕ) → CanBeAfter l.anchor before
    → MeansSome (trees l.tokens) before after text
    → ContainsOne l.anchor l.all.items text
    ⊎ MeansSome (trees (drop l.token-index l.tokens)) before after text
