-- The first neighbours that are both boundaries.
use Rattle.std.proofs.Common.{◌≡◌, ℕ, zero, suc, ◌+◌, ◌-◌, ◌<◌, ◌≤◌, drop, get_or, List, [], ◌∷◌, length}
use Rattle.std.proofs.Common.{Option, Some, None, refl, sym, ◌∙◌, ap, arith}
use Rattle.std.specs.Option.{option_map, option_or}
use Rattle.wax_facts.specs.declared.rules.RuleErrorKind.TheVariants.{AdjacentBoundary}
use Rattle.wax_facts.specs.Rules.{break_here, adjacent_span, boundary_break, adjacent_boundaries}
use Rattle.wax_token.specs.{Syntax.Tree, Words.trees, Reads.Span}
use Rattle.wax_rule.specs.FirstBreak.{head_of}
use Rattle.wax_rule.proofs.Firsts.{head_of_append}

head_of_break : (o : Option Span) → head_of (boundary_break o) ≡ option_map (break_here AdjacentBoundary) o
head_of_break None = refl
head_of_break (Some s) = refl

step_at : (ts : List (Tree Span)) (i : ℕ) (t u : Tree Span) → suc i < length ts → t ≡ get_or ts i t
    → u ≡ get_or ts (suc i) u →
    head_of (adjacent_boundaries (trees (drop i ts)))
    ≡ option_or (option_map (break_here AdjacentBoundary) (adjacent_span t u))
    (head_of (adjacent_boundaries (trees (drop (suc i) ts))))
step_at [] i t u lt e f = absurd (omega (arith, lt))
step_at (v ∷ []) i t u lt e f = absurd (omega (arith, lt))
step_at (v ∷ w ∷ ws) zero t u lt e f =
    let later = head_of (adjacent_boundaries (trees (w ∷ ws))) in
    head_of_append (boundary_break (adjacent_span v w)) (adjacent_boundaries (trees (w ∷ ws)))
    ∙ ap (λ z. option_or z later) (head_of_break (adjacent_span v w)
    ∙ ap (λ z. option_map (break_here AdjacentBoundary) (adjacent_span z w)) (sym e)
    ∙ ap (λ z. option_map (break_here AdjacentBoundary) (adjacent_span t z)) (sym f))
step_at (v ∷ w ∷ ws) (suc i) t u lt e f = step_at (w ∷ ws) i t u (omega (arith, lt)) e f

-- the break of two neighbours comes before those of the later ones
pub adjacent_step : (ts : List (Tree Span)) (j : ℕ) (t u : Tree Span) → 1 ≤ j → j < length ts
    → t ≡ get_or ts (j - 1) t → u ≡ get_or ts j u →
    head_of (adjacent_boundaries (trees (drop (j - 1) ts)))
    ≡ option_or (option_map (break_here AdjacentBoundary) (adjacent_span t u))
    (head_of (adjacent_boundaries (trees (drop (j + 1 - 1) ts))))
adjacent_step ts zero t u some lt e f = absurd (omega (arith, some))
adjacent_step ts (suc i) t u some lt e f =
    let n : suc i - 1 ≡ i = omega arith in
    let m : suc i + 1 - 1 ≡ suc i = omega arith in
    rw (n, m) (step_at ts i t u lt (rw n at e) f)

-- the last token has no neighbour after it
pub adjacent_end : (ts : List (Tree Span)) (i : ℕ) → length ts ≤ i + 1
    → head_of (adjacent_boundaries (trees (drop i ts))) ≡ None
adjacent_end [] zero h = refl
adjacent_end [] (suc i) h = refl
adjacent_end (t ∷ []) zero h = refl
adjacent_end (t ∷ u ∷ us) zero h = absurd (omega (arith, h))
adjacent_end (t ∷ ts) (suc i) h = adjacent_end ts i (omega (arith, h))
