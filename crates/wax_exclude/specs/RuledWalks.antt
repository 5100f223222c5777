-- What comes of a walk from an origin, filtered by rules.
use Rattle.std.specs.Prelude.{◌≡◌, ℕ, ◌+◌, Bool, if◌then◌else◌, nat_lt, List, [], ◌∷◌, ◌++◌, length}
use Rattle.wax_directory.specs.{Law.Law, Shown.Shown}
use Rattle.wax_tree.specs.{Programs.any_mark, Begins.{Origin, origin_location, scope_in}}
use Rattle.wax_tree.specs.{Courses.{IsNamed, along_course}, declared.steps.DepthRange.DepthRange}
use Rattle.wax_tree.specs.{Follows.AreDistinctAlong, Plain.count_shown}
use Rattle.wax_walk.specs.Course.{Course, IsStartOf, filtered_course, stop, yields}
use Rattle.wax_walk.specs.Forest.{Forest, nothing, Pending, pending}
use Rattle.wax_walk.specs.Given.{Facts, Mark, Given, changed_by, cut_by, no_memory}
use Rattle.wax_walk.specs.{View.{MayTake, WalkView}, Pruned.{Opening, opened_forest, opened_course}}
use Rattle.wax_exclude.specs.{Walked.origin_walk, Wanted.stacked}

-- the folders that a walk opens, and the rules that filter it, one after another; the range that is walked,
-- and the origin
pub record RuledWalk : Type 0 where
  pub opening : Opening
  pub rules : List (Facts → Mark)
  pub walked : DepthRange
  pub origin : Origin

-- the walk, filtered by one more rule
abbrev pub with_rule : RuledWalk → (Facts → Mark) → RuledWalk
with_rule walk rule = record walk { rules = walk.rules ++ rule ∷ [] }

-- the origin has more names than the greatest depth
abbrev pub exceeds_range : RuledWalk → Bool
exceeds_range walk = nat_lt walk.walked.max (length walk.origin.names)

-- what the walk yields: nothing if the origin has more names than the greatest depth, else what the rules
-- leave of the walk along these names and from there on, of which only some folders are opened
abbrev pub ruled_forest : RuledWalk → Shown → Forest Given
ruled_forest walk s = if exceeds_range walk then nothing else stacked walk.rules
    (opened_forest walk.opening (origin_walk walk.walked walk.origin s))

-- at most how many items are taken from listings for it
abbrev pub ruled_items : RuledWalk → Shown → ℕ
ruled_items walk s = if exceeds_range walk then 0 else count_shown s

-- what is to come when the walk begins
abbrev pub ruled_pending : RuledWalk → Shown → List (List ℕ) → Pending Given
ruled_pending walk s listed = pending nothing (ruled_forest walk s) listed (ruled_items walk s)

-- the plain walk's calls and items along the names of the origin and from there on, if s is shown
abbrev pub origin_course : DepthRange → Origin → Shown → Course
origin_course range origin s =
    along_course (scope_in range) origin.names (origin_location origin) s

-- those of the filtered walk
abbrev pub walk_course : RuledWalk → Shown → Course
walk_course walk s =
    let rule = any_mark walk.rules in
    if exceeds_range walk then stop else filtered_course (changed_by rule) (cut_by rule)
    (opened_course walk.opening (origin_course walk.walked walk.origin s))

-- what the walk may take: the course of a tree, in which each name of the origin is looked up among distinct
-- names; or only the error that allocation failed
pub data WalkTakes (walk : RuledWalk) (c : Course) : Type 0 where
  walks : (s : Shown) → IsNamed s → AreDistinctAlong walk.origin.names s → IsStartOf c (walk_course walk s)
      → WalkTakes walk c
  lacking : IsStartOf c (yields no_memory stop stop) → WalkTakes walk c

-- the view of a walk over the directory d, of which this walk is to come
pub record ComesRuled {D C : Type 0} (law : Law D C) (d : D) (walk : RuledWalk) (view : WalkView D) : Type 0
  where
    pub comes : (s : Shown) (listed : List (List ℕ)) → law.shows d walk.origin.path s → law.tells d listed
        → view.to_come (ruled_pending walk s listed)
    pub takes : (c : Course) → MayTake view c → WalkTakes walk c
    pub listings : view.listings_left ≡ walk.walked.budget + 1
