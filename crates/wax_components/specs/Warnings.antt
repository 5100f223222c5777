-- The warnings of a glob.
use Rattle.std.specs.Prelude.{ℕ, ◌-◌, Bool, List, [], ◌∷◌, ◌++◌, length, slice_get, Option, Some, None}
use Rattle.std.specs.{Prelude.if◌then◌else◌, List.{flat_map, list_any}}
use Rattle.wax_query.specs.Spans.{Span}
use Rattle.wax_token.specs.{Syntax.Tree, Words.annotation_of, Kinds.is_separator}
use Rattle.wax_components.specs.{TopLevel.tokens_of, Parts.{joint_span, is_semantic}, Levels.literals}
use Rattle.wax_components.specs.declared.warnings.Warning.{Warning}
use Rattle.wax_components.specs.declared.warnings.Warning.TheVariants.{SemanticLiteral, TerminatingSeparator}

-- the warning of a component with its text, if that is `.` or `..`
abbrev pub semantic_warnings : List ℕ → List (Tree Span) × List ℕ → List Warning
semantic_warnings e c =
    if is_semantic c.1
    then SemanticLiteral (record { expression = e; span = joint_span c.0; literal = c.1 }) ∷ []
    else []

abbrev pub separator_span : Option (Tree Span) → Option Span
separator_span None = None
separator_span (Some t) = if is_separator t then Some (annotation_of t) else None

-- the span of the last of these tokens, if that is a separator
abbrev pub terminating_span : List (Tree Span) → Option Span
terminating_span ts = separator_span (slice_get ts (length ts - 1))

abbrev pub terminating_warnings : List ℕ → Option Span → List Warning
terminating_warnings e None = []
terminating_warnings e (Some s) = TerminatingSeparator (record { expression = e; span = s }) ∷ []

-- those of an expression and its tree: of literals first, by level and from left to right
abbrev pub warnings : List ℕ → Tree Span → List Warning
warnings e t =
    flat_map (semantic_warnings e) (literals t) ++ terminating_warnings e (terminating_span (tokens_of t))

abbrev pub has_semantic_literals : {A : Type 0} → Tree A → Bool
has_semantic_literals t = list_any (λ c. is_semantic c.1) (literals t)

abbrev pub span_of_warning : Warning → Span
span_of_warning (SemanticLiteral w) = w.span
span_of_warning (TerminatingSeparator w) = w.span
