-- What it means that a token keeps the rules.
use Rattle.std.specs.{Prelude.{◌≡◌, ℕ, List, []}, List.Contains}
use Rattle.wax_facts.specs.{Alternatives.alternatives, Rules.broken, Orderly.Flat, Prefix.Prefix, Rest.left}
use Rattle.wax_rule.specs.Shifted.{shifted_rest}
use Rattle.wax_token.specs.{Reads.Span, Syntax.{Tree, alternation, concatenation}, Words.trees}

-- A token keeps the rules if it breaks none, or is made of tokens that keep them in one of three ways. What
-- is made so may break a rule by itself: the alternation of `a` and `/b` does, and so does a rest whose fixed
-- size is too large, if the whole has no fixed size.
pub data KeepsRules : Tree Span → Type 0 where
  unbroken : (t : Tree Span) → broken t ≡ [] → KeepsRules t
  -- an alternation without an expression, of tokens that keep them
  combined : (ts : List (Tree Span)) → ((t : Tree Span) → Contains ts t → KeepsRules t) →
      KeepsRules (alternation (0, 0) (trees ts))
  -- an alternative of a token that keeps them
  alternative : (t u : Tree Span) → KeepsRules t → Contains (alternatives t) u → KeepsRules u
  -- what is left after the prefix of a flat token that keeps them, with the spans of its own expression
  rest : (t : Tree Span) (taken : ℕ) (prefix : List ℕ) (s : Span) → KeepsRules t → Flat t →
      Prefix t taken prefix → KeepsRules (concatenation s (shifted_rest (left t taken)))
