-- What a value ends as whose span was lent.
use Rattle.std.specs.{Prelude.{[], ◌∷◌}, Borrow.{Lends, MutBor, Fml, RattleType, usize}}
use Rattle.wax_query.specs.Spans.{Span}
use denote.Struct.Tuple.{Tuple}

abbrev pub span_row : RattleType
span_row = Tuple (usize ∷ usize ∷ [])

-- s ends with the last span behind r in the place of its own
abbrev pub LendsSpan : (R : RattleType) → (R.Denot → Span → R.Denot) → MutBor R.Denot → MutBor Span → Fml
LendsSpan R with_span s r = Lends R span_row s r (with_span s.now)
