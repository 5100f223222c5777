-- What is wanted of a walk, a glob's walk, and which folders it may list.
use Rattle.std.specs.Prelude.{◌≡◌, ℕ, ◌<◌, ◌≤◌, ◌++◌, ◌&&◌, Bool, ⊤, List, [], ◌∷◌, filter, length, map}
use Rattle.std.specs.Prelude.{chars}
use Rattle.wax_facts.specs.Alternatives.{alternatives}
use Rattle.wax_directory.specs.Shown.{Shown}
use Rattle.wax_tree.specs.{Begins.{Origin, origin_location, scope_in}, declared.steps.DepthRange.DepthRange}
use Rattle.wax_tree.specs.{Plain.plain_at, Prefix.{ArePlain, path_from, walk_from}, Whole.{is_in, whole_at}}
use Rattle.wax_walk.specs.{Candidates.Candidate, Forest.{Forest, nothing}, Given.Given}
use Rattle.wax_exclude.specs.{Candidates.candidate_at, Covers.CoversSome, Ignored.IgnoresBelow}
use Rattle.wax_exclude.specs.Leading.{leading_of, Lead}
use Rattle.wax_exclude.specs.Wanted.{Filter, not_meant, not_ignored, Wanted, is_wanted, stacked, rules_of}

-- the entries of the whole walk from the path of the origin that are in range and wanted, in order
abbrev pub wanted_entries : {A : Type 0} → Wanted A → DepthRange → Origin → Shown → List Given
wanted_entries w asked origin s =
    filter (λ x. is_in asked x && is_wanted w x) (whole_at (origin_location origin) s)

-- the plain walk from the path of the origin
abbrev pub plain_walk : DepthRange → Origin → Shown → Forest Given
plain_walk range origin s = plain_at (scope_in range) (origin_location origin) s nothing

-- the walk along the names of the origin, and from there on
abbrev pub origin_walk : DepthRange → Origin → Shown → Forest Given
origin_walk range origin s = walk_from (scope_in range) (origin_location origin) s origin.names nothing

-- the walk along the names of the origin and from there on, filtered by what is wanted
abbrev pub glob_walk : {A : Type 0} → Wanted A → DepthRange → Origin → Shown → Forest Given
glob_walk w range origin s = stacked (rules_of w) (origin_walk range origin s)

-- ---- folders that may be listed

-- the filter excludes the candidate with everything that can be below it: an alternative of the pattern
-- covers it, or a line that ignores covers it and no line after that re-includes
abbrev pub ExcludesBelow : {A : Type 0} → Filter A → Candidate → Type 0
ExcludesBelow (not_meant t) c = CoversSome (alternatives t) c
ExcludesBelow (not_ignored lines) c = IgnoresBelow lines c

-- the filter doesn't exclude these names, or the first few of them, with everything below
abbrev pub IsUncovered : {A : Type 0} → Bool → Filter A → List (List ℕ) → Type 0
IsUncovered rooted x names = (front back : List (List ℕ)) → front ++ back ≡ names
    → ¬ (ExcludesBelow x (candidate_at rooted front))

-- no filter excludes these names, or the first few of them, with everything below
abbrev pub AreUncovered : {A : Type 0} → Bool → List (Filter A) → List (List ℕ) → Type 0
AreUncovered rooted [] names = ⊤
AreUncovered rooted (x ∷ filters) names = IsUncovered rooted x names × AreUncovered rooted filters names

-- The folder is at or below the last name of the origin, at less than the greatest depth. If it is at no less
-- than the least depth, its names match the leading components at their positions, and no filter excludes it,
-- or a folder that contains it, with everything below.
pub record MayList {A : Type 0} (w : Wanted A) (range : DepthRange) (origin : Origin)
    (listed : List ℕ) : Type 0 where
  pub names : List (List ℕ)
  pub path_is : listed ≡ path_from (path_from origin.path origin.names) names
  pub are_plain : ArePlain (origin.names ++ names)
  pub above_greatest : length (origin.names ++ names) < range.max
  pub are_led : range.min ≤ length (origin.names ++ names)
      → Lead (leading_of w.rooted w.glob) (map chars (origin.names ++ names))
  pub uncovered : range.min ≤ length (origin.names ++ names)
      → AreUncovered w.rooted w.filters (map chars (origin.names ++ names))
