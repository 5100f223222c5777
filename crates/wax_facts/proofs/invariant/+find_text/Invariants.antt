use Rattle.std.proofs.Common.{ℕ, List, ◌++◌, ◌+◌, ◌*◌, take, drop, chars, string_bytes}
use Rattle.wax_token.specs.{Syntax.{tree_size, trees_size}, Words.trees}
use Rattle.wax_facts.specs.InvariantText.{TextOfAll, TextOfEach}
use Rattle.wax_facts.proofs.invariant.+find_text.Given as goal

abbrev pub decreases-find_text : goal.decreases-find_text
decreases-find_text g l = 2 * tree_size l.token.now

abbrev pub decreases-text_of_all : goal.decreases-text_of_all
decreases-text_of_all g l = 2 * trees_size (trees l.tokens.now)

abbrev pub decreases-text_of_each : goal.decreases-text_of_each
decreases-text_of_each g l = 2 * trees_size (trees l.tokens.now)

abbrev pub decreases-text_of_copies : goal.decreases-text_of_copies
decreases-text_of_copies g l = 2 * tree_size l.copies.now.token.value + 1

-- where the first branch and those still to come have the text, all have it
abbrev pub invariant-text_of_all-loop-token : goal.invariant-text_of_all-loop-token
invariant-text_of_all-loop-token g l =
    TextOfAll (trees (take 1 l.tokens ++ drop l.token-index l.others)) (chars (string_bytes l.text))
    → TextOfAll (trees l.tokens) (chars (string_bytes l.text))

-- what is joined and the text of the tokens still to come are the text of all
abbrev pub invariant-text_of_each-loop-token : goal.invariant-text_of_each-loop-token
invariant-text_of_each-loop-token g l = (y : List ℕ) → TextOfEach (trees (drop l.token-index l.tokens)) y
    → TextOfEach (trees l.tokens) (chars (string_bytes l.joined) ++ y)
