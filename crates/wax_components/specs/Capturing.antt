-- Which tokens capture.
use Rattle.std.specs.{Prelude.{ℕ, List, filter, map}, List.enumerate_from}
use Rattle.wax_query.specs.Spans.{Span}
use Rattle.wax_token.specs.{Kinds.is_capturing, Syntax.Tree, Words.annotation_of}
use Rattle.wax_components.specs.TopLevel.{tokens_of}

-- the captures of tokens, from an index on: their indices and spans
abbrev pub captures_in : ℕ → List (Tree Span) → List (ℕ × Span)
captures_in n ts = enumerate_from n (map annotation_of (filter is_capturing ts))

-- the top-level tokens that capture
abbrev pub capturing : {A : Type 0} → Tree A → List (Tree A)
capturing t = filter is_capturing (tokens_of t)

-- their indices, from 1 on, and spans
abbrev pub captures : Tree Span → List (ℕ × Span)
captures t = captures_in 1 (tokens_of t)
