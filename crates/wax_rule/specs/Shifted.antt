-- Tokens of an expression that has lost its beginning.
use Rattle.std.specs.Prelude.{ℕ, ◌+◌, ◌-◌, true, false}
use Rattle.wax_token.specs.Reads.{Span}
use Rattle.wax_token.specs.Syntax.{tree, Tree, leaf, alternation, concatenation, repetition, Trees, none}
use Rattle.wax_token.specs.{Syntax.more, Words.annotation_of}

-- so many bytes before it are gone
abbrev pub shifted_span : ℕ → Span → Span
shifted_span k s = (s.0 - k, s.1)

abbrev mutual
  pub shifted_tree : ℕ → Tree Span → Tree Span
  shifted_tree k (leaf s l) = leaf (shifted_span k s) l
  shifted_tree k (alternation s ts) = alternation (shifted_span k s) (shifted_each k ts)
  shifted_tree k (concatenation s ts) = concatenation (shifted_span k s) (shifted_each k ts)
  shifted_tree k (repetition s t low high) = repetition (shifted_span k s) (shifted_tree k t) low high

  pub shifted_each : ℕ → Trees Span → Trees Span
  shifted_each k none = none
  shifted_each k (more t ts) = more (shifted_tree k t) (shifted_each k ts)

-- the tokens where the first one begins the expression, and a leading `**` has lost its `/`
abbrev pub shifted_rest : Trees Span → Trees Span
shifted_rest none = none
shifted_rest (more (leaf s (tree true)) ts) =
    more (leaf (0, s.1 - 1) (tree false)) (shifted_each (s.0 + 1) ts)
shifted_rest (more t ts) = more (shifted_tree (annotation_of t).0 t) (shifted_each (annotation_of t).0 ts)
