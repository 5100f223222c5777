-- Which entries are wanted, in the words of what globs match.
use Rattle.std.specs.Prelude.{◌≡◌, ◌≤◌, ◌⊎◌, ℕ, true, false, List, [], ◌∷◌, All, chars}
use Rattle.wax_directory.specs.Shown.{Shown}
use Rattle.wax_token.specs.{Meaning.Means, Reads.Span}
use Rattle.wax_tree.specs.{Begins.{Origin, origin_location}, declared.steps.DepthRange.DepthRange}
use Rattle.wax_tree.specs.Whole.{whole_at}
use Rattle.wax_walk.specs.Given.{Given, entry, kept}
use Rattle.wax_exclude.specs.{Deciding.IsLastMatch, Ignored.Line, Walked.wanted_entries}
use Rattle.wax_exclude.specs.Wanted.{Filter, not_ignored, not_meant, Wanted}

-- the filter excludes the text: its pattern matches it, or the last line that matches it ignores
abbrev pub IsExcludedBy : Filter Span → List ℕ → Type 0
IsExcludedBy (not_meant t) s = Means t false false s
IsExcludedBy (not_ignored lines) s = (line : Line Span) × IsLastMatch lines s line × (line.ignores ≡ true)

-- a kept entry whose depth is in range, which the glob matches and no filter excludes
abbrev pub IsWantedEntry : Wanted Span → DepthRange → Given → Type 0
IsWantedEntry w range (entry kept f) = (range.min ≤ f.depth) × (f.depth ≤ range.max)
    × Means w.glob false false (chars f.candidate)
    × All (λ x. ¬ (IsExcludedBy x (chars f.candidate))) w.filters
IsWantedEntry w range x = ⊥

-- the second list has exactly the elements of the first one of which P holds, in order
abbrev pub Selects : {A : Type 0} → (A → Type 0) → List A → List A → Type 0
Selects P [] ys = ys ≡ []
Selects {A} P (x ∷ xs) ys =
    (P x × ((rest : List A) × (ys ≡ x ∷ rest) × Selects P xs rest)) ⊎ (¬ (P x) × Selects P xs ys)

-- of the whole walk, the wanted entries are exactly those that are kept and in range, which the glob matches
-- and no filter excludes, in order
abbrev pub SelectsWanted : Type 0
SelectsWanted = (w : Wanted Span) (asked : DepthRange) (origin : Origin) (s : Shown)
    → Selects (IsWantedEntry w asked) (whole_at (origin_location origin) s)
    (wanted_entries w asked origin s)
