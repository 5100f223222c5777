-- The labels of a place.
use Rattle.std.specs.{Prelude.{◌≡◌, ℕ, List, [], ◌∷◌, map, Option, Some, None, codes}, Borrow.Bor}
use Rattle.wax_query.specs.{Spans.Span, declared.diagnostics.located.CorrelatedSpan.CorrelatedSpan}
use Rattle.wax_query.specs.declared.diagnostics.located.CorrelatedSpan.TheVariants.{Contiguous, Split}

-- the bytes of a label, and its span
abbrev pub Label : Type 0
Label = List ℕ × Span

abbrev pub spans_of : CorrelatedSpan → List Span
spans_of (Contiguous s) = s ∷ []
spans_of (Split s t) = s ∷ t ∷ []

abbrev pub here : Span → Label
here s = (codes "here", s)

abbrev pub correlated_labels : Option CorrelatedSpan → List Label
correlated_labels None = []
correlated_labels (Some c) = map here (spans_of c)

-- A place with a label, and the places that explain it.
pub record Composite : Type 0 where
  pub label : List ℕ
  pub span : Span
  pub correlated : Option CorrelatedSpan

-- its own label first
abbrev pub all_labels : Composite → List Label
all_labels c = (c.label, c.span) ∷ correlated_labels c.correlated

-- both, or the right one alone
abbrev pub split_some : Option Span → Span → CorrelatedSpan
split_some None s = Contiguous s
split_some (Some t) s = Split t s

-- what a label in the program says
abbrev pub seen : Bor (List ℕ) × Span → Label
seen l = (l.0.now, l.1)

-- the list's labels are these
abbrev pub AreLabels : List (Bor (List ℕ) × Span) → List Label → Type 0
AreLabels ls ms = map seen ls ≡ ms
