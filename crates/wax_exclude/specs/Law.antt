-- The law of glob walks.
use Rattle.std.specs.Prelude.{◌≡◌, ◌<◌, ◌≤◌, ◌⊎◌, [], All, filter, length}
use Rattle.wax_directory.specs.Shown.{Shown}
use Rattle.wax_token.specs.Reads.{Span}
use Rattle.wax_tree.specs.{Begins.Origin, declared.steps.DepthRange.DepthRange, Follows.AreDistinctAlong}
use Rattle.wax_walk.specs.Forest.{preorder, listings}
use Rattle.wax_prefilter.specs.Below.{goes_test}
use Rattle.wax_exclude.specs.{Candidates.base, Premises.{CanWalk, IsUnmeant, IsPlainShown}}
use Rattle.wax_exclude.specs.Pruned.{CanWalkLeast, ListsBy, by_matches, least_walk}
use Rattle.wax_exclude.specs.{Walked.{wanted_entries, glob_walk, MayList}, Wanted.{Wanted, is_kept_entry}}

-- the entries that are kept are those of the whole walk that are in the requested range, that the glob
-- matches and that no filter excludes, in order
abbrev pub GivesWanted : Type 0
GivesWanted = (w : Wanted Span) (asked walked : DepthRange) (origin : Origin) (s : Shown)
    → CanWalk w asked walked origin → IsPlainShown s → AreDistinctAlong origin.names s
    → length origin.names ≤ walked.max
    → filter is_kept_entry (preorder (glob_walk w walked origin s)) ≡ wanted_entries w asked origin s

-- the walk lists only folders that it may list
abbrev pub ListsFew : Type 0
ListsFew = (w : Wanted Span) (asked walked : DepthRange) (origin : Origin) (s : Shown)
    → CanWalk w asked walked origin → IsPlainShown s
    → All (MayList w walked origin) (listings (glob_walk w walked origin s))

-- if the origin has more names than the greatest depth, or no candidate matches, nothing is wanted: so a walk
-- may yield nothing without a call of its directory
abbrev pub WantsNothing : Type 0
WantsNothing = (w : Wanted Span) (asked : DepthRange) (origin : Origin) (s : Shown)
    → IsPlainShown s → origin.candidate ≡ base w.rooted
    → ((walked : DepthRange) × CanWalk w asked walked origin × (walked.max < length origin.names))
    ⊎ IsUnmeant w.rooted w.glob
    → wanted_entries w asked origin s ≡ []

-- ---- walks that open only folders below which something is matched

-- the entries that are kept are those of the whole walk that are in the requested range, that the glob
-- matches and that no filter excludes, in order
abbrev pub GivesLeast : Type 0
GivesLeast = (w : Wanted Span) (asked walked : DepthRange) (origin : Origin) (s : Shown)
    → CanWalkLeast w asked walked origin → IsPlainShown s → AreDistinctAlong origin.names s
    → length origin.names ≤ walked.max
    → filter is_kept_entry (preorder (least_walk (goes_test w.glob) asked.min w walked origin s))
    ≡ wanted_entries w asked origin s

-- the walk lists exactly the folders of the plain walk that it may open: those below which something is
-- matched down to the greatest depth, and which no filter excludes with everything below
abbrev pub ListsExactly : Type 0
ListsExactly = (w : Wanted Span) (asked walked : DepthRange) (origin : Origin) (s : Shown)
    → CanWalkLeast w asked walked origin → IsPlainShown s
    → ListsBy by_matches w walked origin s
    (listings (least_walk (goes_test w.glob) asked.min w walked origin s))

-- if the origin has more names than the greatest depth, nothing is wanted
abbrev pub LeastWantsNothing : Type 0
LeastWantsNothing = (w : Wanted Span) (asked walked : DepthRange) (origin : Origin) (s : Shown)
    → CanWalkLeast w asked walked origin → IsPlainShown s → walked.max < length origin.names
    → wanted_entries w asked origin s ≡ []

-- the law of walks
pub record WalkLaw : Type 0 where
  pub gives : GivesWanted
  pub lists : ListsFew
  pub nothing : WantsNothing
  pub gives_least : GivesLeast
  pub lists_exactly : ListsExactly
  pub least_nothing : LeastWantsNothing
