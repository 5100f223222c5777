-- The law of plain walks that a list of lines filters.
use Rattle.std.specs.Prelude.{◌≡◌, ℕ, Bool, false, ◌&&◌, not, ◌⊎◌, List, [], ◌∷◌, ◌++◌, All, chars, filter}
use Rattle.std.specs.{Prelude.map, List.Contains}
use Rattle.wax_directory.specs.Shown.{Shown}
use Rattle.wax_token.specs.Reads.{Span}
use Rattle.wax_tree.specs.{Begins.scope_in, declared.steps.DepthRange.DepthRange, Plain.plain}
use Rattle.wax_tree.specs.{Prefix.{ArePlain, path_from}, Whole.{is_in, whole}}
use Rattle.wax_walk.specs.{Candidates.of_candidate, Forest.{preorder, listings}, Given.{Facts, Mark, Given}}
use Rattle.wax_exclude.specs.{Candidates.candidate_at, Ignored.{Line, is_ignored, IgnoresBelow, ignore_mark}}
use Rattle.wax_exclude.specs.{Premises.IsPlainShown, Wanted.{is_kept_entry, is_kept_where, stacked}}

-- an entry that is kept and not ignored
abbrev pub is_unignored : {A : Type 0} → List (Line A) → Given → Bool
is_unignored lines x = is_kept_where (λ f. not (is_ignored lines (chars f.candidate))) x

-- the filter of a list
abbrev pub ignore_rules : {A : Type 0} → List (Line A) → List (Facts → Mark)
ignore_rules lines = of_candidate (ignore_mark lines) ∷ []

-- the entries of the plain walk that a list's filter keeps are those of the whole walk that are in range and
-- that the list doesn't ignore, in order
abbrev pub GivesUnignored : Type 0
GivesUnignored = (lines : List (Line Span)) (range : DepthRange) (start : List ℕ) (s : Shown) → IsPlainShown s
    → filter is_kept_entry (preorder (stacked (ignore_rules lines) (plain (scope_in range) start s)))
    ≡ filter (λ x. is_in range x && is_unignored lines x) (whole start s)

-- the path is that of some names from the start; the first few of them, all plain, are those of a candidate
-- that is ignored with everything below it
abbrev pub IsIgnoredBelow : {A : Type 0} → List (Line A) → List ℕ → List ℕ → Type 0
IsIgnoredBelow lines start path = (front back : List (List ℕ)) × ArePlain front
    × (path ≡ path_from start (front ++ back)) × IgnoresBelow lines (candidate_at false (map chars front))

-- each folder that the plain walk lists is listed after the list's filter, or is at or below such a candidate
abbrev pub LosesIgnored : Type 0
LosesIgnored = (lines : List (Line Span)) (range : DepthRange) (start : List ℕ) (s : Shown) → IsPlainShown s
    → All (λ path. Contains (listings (stacked (ignore_rules lines) (plain (scope_in range) start s))) path
    ⊎ IsIgnoredBelow lines start path) (listings (plain (scope_in range) start s))
