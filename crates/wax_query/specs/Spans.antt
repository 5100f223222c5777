-- Spans of an expression, as the first byte and the number of bytes.
use Rattle.std.specs.Prelude.{ℕ, ◌+◌, ◌-◌, ◌≤◌, max, min}

abbrev pub Span : Type 0
Span = ℕ × ℕ

-- the byte after the last one
abbrev pub end_of : Span → ℕ
end_of s = s.0 + s.1

-- no byte and no edge of the second is outside the first
abbrev pub HoldsSpan : Span → Span → Type 0
HoldsSpan s t = (s.0 ≤ t.0) × (end_of t ≤ end_of s)

-- the least span that holds both
abbrev pub IsUnion : Span → Span → Span → Type 0
IsUnion s t u = HoldsSpan u s × HoldsSpan u t × ((v : Span) → HoldsSpan v s → HoldsSpan v t → HoldsSpan v u)

-- the same, computed
abbrev pub span_union : Span → Span → Span
span_union s t = (min s.0 t.0, max (end_of s) (end_of t) - min s.0 t.0)
