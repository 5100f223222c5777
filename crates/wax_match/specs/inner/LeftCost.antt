-- How many instructions are written for what is left of patterns, at most.
use Rattle.std.specs.Prelude.{ℕ, ◌+◌, chars, length}
use Rattle.wax_match.specs.{declared.encode.left.Left.Left, inner.LeadCode.gap_code}
use Rattle.wax_token.specs.{Cost.costs, Words.trees}

-- its text, its wildcard and its tokens, its end, and a fork before it
abbrev pub left_cost : Left → ℕ
left_cost l = length (chars l.text.now) + length (gap_code l.gap) + costs (trees l.tokens.now) + 2
