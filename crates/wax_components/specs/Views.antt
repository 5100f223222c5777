-- What contracts see of warnings.
use Rattle.std.specs.Prelude.{ℕ, List}
use Rattle.wax_query.specs.Spans.{Span}

-- the characters of the expression, the span of the component, and its text
pub record SemanticView : Type 0 where
  pub expression : List ℕ
  pub span : Span
  pub literal : List ℕ

-- the characters of the expression, and the span of the separator
pub record TerminatingView : Type 0 where
  pub expression : List ℕ
  pub span : Span
