-- How calls end that say where captures lie.
use Rattle.std.specs.Prelude.{◌≡◌, ◌<◌, ◌≤◌, ℕ, ℤ, pos, neg_ℤ, Bool, true, false, List, length, map, chars}
use Rattle.std.specs.Prelude.{Result, Ok, Err, IsUtf8}
use Rattle.wax.specs.{GlobView.{GlobView, HasSpans, IsMeant}, Language.{Memory, Span}, Queries.captures}
use Rattle.wax_c.specs.{Numbers.answer_number, Outcomes.HoldsFirst, declared.error.CallError.CallError}
use Rattle.wax_c.specs.declared.error.CallError.TheVariants.{Build, NotText, NoRoom}
use Rattle.wax_c.specs.declared.globs.WaxSpan.{WaxSpan}

-- spans as C has them
abbrev pub wax_span : Span → WaxSpan
wax_span span = record { start = span.0; length = span.1 }

abbrev pub wax_spans : List Span → List WaxSpan
wax_spans spans = map wax_span spans

-- where the tokens of the glob that capture lie in its expression, in order
abbrev pub capturing_spans : GlobView → List WaxSpan
capturing_spans g = wax_spans (map (λ token. token.1) (captures g.tree))

-- the glob matches the path of these bytes, and here its captures lie
abbrev pub MatchesAt : GlobView → List ℕ → List Span → Type 0
MatchesAt g path spans = IsUtf8 path × IsMeant g (chars path) × HasSpans g path spans

-- The list begins with the spans of the captures of a path that the glob matches, and the count is their
-- number; or the list is as before.
abbrev pub Spans : GlobView → List ℕ → List WaxSpan → List WaxSpan → ℕ → Result Bool CallError → Type 0
Spans g path before after count (Ok true) =
    (spans : List Span) × MatchesAt g path spans × HoldsFirst (wax_spans spans) before after
    × (count ≡ length (wax_spans spans))
Spans g path before after count (Ok false) =
    IsUtf8 path × (IsMeant g (chars path) → ⊥) × (after ≡ before) × (count ≡ 0)
Spans g path before after count (Err NoRoom) =
    (spans : List Span) × MatchesAt g path spans × (length before < length (wax_spans spans))
    × (after ≡ before) × (count ≡ length (wax_spans spans))
Spans g path before after count (Err NotText) = (IsUtf8 path → ⊥) × (after ≡ before) × (count ≡ 0)
Spans g path before after count (Err (Build error)) = (error ≡ Memory) × (after ≡ before) × (count ≡ 0)

-- The number is that of such an outcome. A list with room for as many spans as the glob has tokens that
-- capture isn't too small.
abbrev pub SpansAs : GlobView → List ℕ → List WaxSpan → List WaxSpan → ℕ → ℤ → Type 0
SpansAs g path before after count number =
    (outcome : Result Bool CallError) × Spans g path before after count outcome
    × (number ≡ answer_number outcome)
    × (length (captures g.tree) ≤ length before → number ≡ neg_ℤ (pos 21) → ⊥)
