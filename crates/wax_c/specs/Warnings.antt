-- The warnings of a glob, as C has them.
use Rattle.std.specs.Prelude.{◌≡◌, ◌==◌, if◌then◌else◌, ℤ, pos, Bool, List, length, map, Result, Ok, Err}
use Rattle.std.specs.Prelude.{encode_utf8_all}
use Rattle.wax.specs.{GlobView.GlobView, Language.{Memory, Span, Tree}}
use Rattle.wax.specs.{Queries.{has_semantic_literals, warnings}, declared.diagnostics.Warning.Warning}
use Rattle.wax.specs.declared.diagnostics.Warning.TheVariants.{SemanticLiteral, TerminatingSeparator}
use Rattle.wax_c.specs.{Numbers.answer_number, declared.error.CallError.CallError}
use Rattle.wax_c.specs.{declared.error.CallError.TheVariants.Build, declared.warnings.WaxWarning.WaxWarning}

-- what a warning is about, as a number: a component of one dot or of two, or a separator at the end
abbrev pub warning_number : Warning → ℤ
warning_number (SemanticLiteral w) = if length (encode_utf8_all w.literal) == 1 then pos 1 else pos 2
warning_number (TerminatingSeparator w) = pos 3

-- the place of a warning in the expression
abbrev pub warning_span : Warning → Span
warning_span (SemanticLiteral w) = w.span
warning_span (TerminatingSeparator w) = w.span

-- a warning as C has it
abbrev pub wax_warning : Warning → WaxWarning
wax_warning w = let span : Span = warning_span w in
    record { span = record { start = span.0; length = span.1 }; kind = warning_number w }

abbrev pub wax_warnings : GlobView → List WaxWarning
wax_warnings g = map wax_warning (warnings g.expression g.tree)

-- the answer is whether the text of a component is `.` or `..`; nothing is said if memory runs out
abbrev pub SaysSemantic : Tree Span → Result Bool CallError → Type 0
SaysSemantic t (Ok answer) = answer ≡ has_semantic_literals t
SaysSemantic t (Err error) = error ≡ Build Memory

-- the number is that of such an outcome
abbrev pub SaysSemanticAs : Tree Span → ℤ → Type 0
SaysSemanticAs t number =
    (outcome : Result Bool CallError) × SaysSemantic t outcome × (number ≡ answer_number outcome)
