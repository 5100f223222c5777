-- Walks that open only folders below which something can match.
use Rattle.std.specs.Prelude.{◌≡◌, ◌↔◌, ◌⊎◌, ℕ, ◌<◌, ◌≤◌, Bool, IsTrue, true, false, ◌&&◌, not, nat_lt, All}
use Rattle.std.specs.{Prelude.{Option, if◌then◌else◌, List, [], ◌∷◌, ◌++◌, length, map, chars}, List.Contains}
use Rattle.std.specs.Str.{all_scalars}
use Rattle.wax_directory.specs.Shown.{Shown}
use Rattle.wax_token.specs.{Decided.means_test, Meaning.Means, Syntax.Tree}
use Rattle.wax_tree.specs.{Begins.Origin, declared.steps.DepthRange.DepthRange, Prefix.{ArePlain, path_from}}
use Rattle.wax_tree.specs.Programs.{limit_below}
use Rattle.wax_walk.specs.{Candidates.{Candidate, of_candidate}, Forest.{Forest, listings}}
use Rattle.wax_walk.specs.Given.{Facts, Mark, kept, alone, Given, entry}
use Rattle.wax_walk.specs.Pruned.{Opening, all_folders, opens_by, pruned, these_folders}
use Rattle.wax_prefilter.specs.Below.{goes_test}
use Rattle.wax_query.specs.{Below.AreNames, Ranges.AtMost}
use Rattle.wax_exclude.specs.{Candidates.{base, candidate_at, text_at}, Marks.glob_mark}
use Rattle.wax_exclude.specs.Premises.{BeginsWith, BoundsNames, CanWalk}
use Rattle.wax_exclude.specs.Walked.{AreUncovered, ExcludesBelow, MayList, origin_walk}
use Rattle.wax_exclude.specs.Wanted.{Filter, Wanted, is_wanted, filter_rules, stacked}

-- some longer names, with at most so many more, are those of a candidate that the tree matches, one that
-- consists of characters
abbrev pub MeansLonger : {A : Type 0} → Bool → Tree A → Option ℕ → List (List ℕ) → Type 0
MeansLonger rooted t most names = (more : List (List ℕ)) × ¬ (more ≡ []) × AreNames more
    × AtMost (length more) most × (all_scalars (text_at rooted (names ++ more)) ≡ true)
    × Means t false false (text_at rooted (names ++ more))

-- of a candidate with names the test says whether the tree matches one with longer names
abbrev pub TestsBelow : {A : Type 0} → (Option ℕ → List ℕ → Bool) → Bool → Tree A → Type 0
TestsBelow goes rooted t = (most : Option ℕ) (names : List (List ℕ)) → AreNames names
    → IsTrue (goes most (text_at rooted names)) ↔ MeansLonger rooted t most names

-- a folder is opened if the test says so of its candidate, with the names that are left to the greatest depth
abbrev pub opens_where : (Option ℕ → List ℕ → Bool) → ℕ → Facts → Bool
opens_where goes greatest = opens_by (λ c. goes (limit_below greatest c.depth) c.text)

-- the rule of a least walk: an entry is kept if its depth is at least `least` and it matches, and else
-- excluded by itself
abbrev pub least_mark : {A : Type 0} → ℕ → Tree A → Candidate → Mark
least_mark least t c = if not (nat_lt c.depth least) && means_test t false false c.text then kept else alone

-- that rule first, and that of each filter after it
abbrev pub least_rules : {A : Type 0} → ℕ → Wanted A → List (Facts → Mark)
least_rules least w = of_candidate (least_mark least w.glob) ∷ filter_rules w.filters

-- an entry whose depth is at least `least`
abbrev pub is_from : ℕ → Given → Bool
is_from least (entry m f) = not (nat_lt f.depth least)
is_from least x = false

-- that is wanted
abbrev pub is_wanted_from : {A : Type 0} → ℕ → Wanted A → Given → Bool
is_wanted_from least w x = is_from least x && is_wanted w x

-- ---- how folders are left unopened

-- a glob's walk excludes folders that its leading components rule out, with everything below; or it opens
-- only folders below which something is matched
pub data Pruning : Type 0 where
  by_components : Pruning
  by_matches : Pruning

-- the folders that it opens down to the greatest depth, unless they are excluded with everything below
abbrev pub opening_by : {A : Type 0} → Pruning → Tree A → ℕ → Opening
opening_by by_components t greatest = all_folders
opening_by by_matches t greatest = these_folders (opens_where (goes_test t) greatest)

-- its rule
abbrev pub first_rule : {A : Type 0} → Pruning → ℕ → Bool → Tree A → Facts → Mark
first_rule by_components least rooted t = of_candidate (glob_mark rooted t)
first_rule by_matches least rooted t = of_candidate (least_mark least t)

-- that rule first, and that of each filter after it
abbrev pub rules_by : {A : Type 0} → Pruning → ℕ → Wanted A → List (Facts → Mark)
rules_by pruning least w = first_rule pruning least w.rooted w.glob ∷ filter_rules w.filters

-- ---- the least walk of a glob

-- the walk along the names of the origin and from there on, without what is below folders that aren't opened,
-- filtered by what is wanted from the least depth on
abbrev pub least_walk : {A : Type 0} → (Option ℕ → List ℕ → Bool) → ℕ → Wanted A → DepthRange → Origin
    → Shown → Forest Given
least_walk goes least w range origin s =
    stacked (least_rules least w) (pruned (opens_where goes range.max) (origin_walk range origin s))

-- A least walk of the glob may begin at this origin and go from depth 0 down to `walked.max`, although
-- `asked` was requested: each candidate that matches begins with the names of the origin, and unless the two
-- greatest depths are equal, none has more than `walked.max` names.
pub record CanWalkLeast {A : Type 0} (w : Wanted A) (asked walked : DepthRange) (origin : Origin) : Type 0
  where
    pub least : walked.min ≡ 0
    pub greatest : (walked.max ≡ asked.max)
        ⊎ ((walked.max ≤ asked.max) × BoundsNames w.rooted w.glob walked.max)
    pub candidate : origin.candidate ≡ base w.rooted
    pub begins : BeginsWith w.rooted w.glob (map chars origin.names)
    pub plain : ArePlain origin.names

-- the glob's walk may begin at this origin
abbrev pub CanWalkBy : {A : Type 0} → Pruning → Wanted A → DepthRange → DepthRange → Origin → Type 0
CanWalkBy by_components w asked walked origin = CanWalk w asked walked origin
CanWalkBy by_matches w asked walked origin = CanWalkLeast w asked walked origin

-- The folder is at or below the last name of the origin, at less than the greatest depth; some longer names,
-- no more than that depth allows, are those of a candidate that the glob matches; and no filter excludes it,
-- or a folder that contains it, with everything below.
pub record MayOpen {A : Type 0} (w : Wanted A) (range : DepthRange) (origin : Origin)
    (listed : List ℕ) : Type 0 where
  pub names : List (List ℕ)
  pub path_is : listed ≡ path_from (path_from origin.path origin.names) names
  pub are_plain : ArePlain (origin.names ++ names)
  pub above_greatest : length (origin.names ++ names) < range.max
  pub means_longer : MeansLonger w.rooted w.glob (limit_below range.max (length (origin.names ++ names)))
      (map chars (origin.names ++ names))
  pub uncovered : AreUncovered w.rooted w.filters (map chars (origin.names ++ names))

-- the path is that of some plain names from the end of the origin; below the first few of them, after those
-- of the origin, nothing is matched down to the greatest depth
abbrev pub IsUnmeantBelow : {A : Type 0} → Wanted A → DepthRange → Origin → List ℕ → Type 0
IsUnmeantBelow w range origin path = (front back : List (List ℕ)) × ArePlain (origin.names ++ (front ++ back))
    × (path ≡ path_from (path_from origin.path origin.names) (front ++ back))
    × ¬ (MeansLonger w.rooted w.glob (limit_below range.max (length (origin.names ++ front)))
    (map chars (origin.names ++ front)))

-- the filter excludes these names, or the first few of them, with everything below
abbrev pub IsCovered : {A : Type 0} → Bool → Filter A → List (List ℕ) → Type 0
IsCovered rooted x names = (front back : List (List ℕ)) × (front ++ back ≡ names)
    × ExcludesBelow x (candidate_at rooted front)

-- one of the filters does so
abbrev pub SomeCovers : {A : Type 0} → Bool → List (Filter A) → List (List ℕ) → Type 0
SomeCovers rooted [] names = ⊥
SomeCovers rooted (x ∷ filters) names = IsCovered rooted x names ⊎ SomeCovers rooted filters names

-- the path is that of some plain names from the end of the origin; a filter excludes these, after those of
-- the origin, or the first few of them, with everything below
abbrev pub IsCoveredBelow : {A : Type 0} → Wanted A → Origin → List ℕ → Type 0
IsCoveredBelow w origin path = (names : List (List ℕ)) × ArePlain (origin.names ++ names)
    × (path ≡ path_from (path_from origin.path origin.names) names)
    × SomeCovers w.rooted w.filters (map chars (origin.names ++ names))

-- these are only folders that the walk may list; or exactly those of the plain walk that it may open
abbrev pub ListsBy : {A : Type 0} → Pruning → Wanted A → DepthRange → Origin → Shown → List (List ℕ) → Type 0
ListsBy by_components w range origin s listed = All (MayList w range origin) listed
ListsBy by_matches w range origin s listed = (path : List ℕ) → Contains listed path
    ↔ Contains (listings (origin_walk range origin s)) path × MayOpen w range origin path
