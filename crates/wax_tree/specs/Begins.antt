-- What is to come of a walk when it begins.
use Rattle.std.specs.Prelude.{◌≡◌, ◌<◌, ◌≤◌, ◌⊎◌, length, ◌+◌, ◌-◌, ◌^◌, ℕ, List, [], ◌++◌, Option, Some}
use Rattle.std.specs.{Prelude.None, Iterator.{Count, IsFinite, size}}
use Rattle.wax_tree.specs.{declared.behavior.WalkBehavior.WalkBehavior, Depths.{least, greatest}}
use Rattle.wax_tree.specs.declared.steps.DepthRange.{DepthRange}
use Rattle.wax_tree.specs.Plain.{Location, WalkScope, plain, count_shown}
use Rattle.wax_tree.specs.Prefix.{ArePlain, path_from, walk_from}
use Rattle.wax_tree.specs.Courses.{AlongComes, IsNamed, plain_course}
use Rattle.wax_directory.specs.{Law.Law, Shown.Shown}
use Rattle.wax_walk.specs.{Forest.{Pending, pending, nothing}, Course.{Course, all_ahead, stop, yields}}
use Rattle.wax_walk.specs.{Given.{Given, no_memory}, View.{MayTake, WalkView, is_above}}
use Rattle.wax_walk.specs.Course as course

-- the greatest depth; if there is no bound, the greatest `usize`
abbrev pub or_greatest : Option ℕ → ℕ
or_greatest (Some n) = n
or_greatest None = 2 ^ 64 - 1

abbrev pub behavior_range : WalkBehavior → DepthRange
behavior_range b = record { min = least b.depth; max = or_greatest (greatest b.depth); budget = b.budget }

abbrev pub scope_in : DepthRange → WalkScope
scope_in range = record { min = range.min; max = range.max }

-- the walk ends, and yields at most `most` items
pub record EndsWithin (most : ℕ) (left : Count) : Type 0 where
  pub ends : IsFinite left
  pub gives : size left ≤ most

-- a path, with its depth, that a walk passes without yielding it: the start or a place on the way along these
-- names, or what lies below that by plain names at less than the least depth
pub record IsPassed (least : ℕ) (start : List ℕ) (way : List (List ℕ)) (path : List ℕ) (depth : ℕ) : Type 0
  where
    pub front : List (List ℕ)
    pub rest : List (List ℕ)
    pub names : List (List ℕ)
    pub on_way : way ≡ front ++ rest
    pub plain : ArePlain names
    pub path_is : path ≡ path_from start (front ++ names)
    pub depth_is : depth ≡ length (front ++ names)
    pub unseen : (names ≡ []) ⊎ (depth < least)

-- errors may come only of what a walk passes from a start along these names
pub record FailsFrom {D : Type 0} (least : ℕ) (start : List ℕ) (way : List (List ℕ)) (view : WalkView D) :
    Type 0 where
  pub at : (path : List ℕ) (depth : ℕ) → view.may_fail path depth → IsPassed least start way path depth
  pub below : (path : List ℕ) (depth : ℕ) → ¬ (view.may_fail_below path depth)

-- no error can come of any path
pub record FailsNowhere {D : Type 0} (view : WalkView D) : Type 0 where
  pub at : (path : List ℕ) (depth : ℕ) → ¬ (view.may_fail path depth)
  pub below : (path : List ℕ) (depth : ℕ) → ¬ (view.may_fail_below path depth)

-- the walk may take nothing but the error that allocation failed
abbrev pub OnlyLacks : {D : Type 0} → WalkView D → Type 0
OnlyLacks view = (c : Course) → MayTake view c → course.IsStartOf c (yields no_memory stop stop)

-- the entry where the walk begins is still to come; or the walk leaves the directory as it is, since it leads
-- nowhere or allocation failed
abbrev pub IsBegun : {D : Type 0} → Type 0 → WalkView D → Type 0
IsBegun nowhere view =
    (view.to_begin ≡ 1) ⊎ (view.is_idle × (view.to_begin ≡ 0) × (nowhere ⊎ OnlyLacks view))

-- what a walk from a start may take: the course of a tree; or only the error that allocation failed
pub data StartTakes (scope : WalkScope) (start : List ℕ) (c : Course) : Type 0 where
  walks : (s : Shown) → IsNamed s → course.IsStartOf c (plain_course scope start s)
      → StartTakes scope start c
  lacking_start : course.IsStartOf c (yields no_memory stop stop) → StartTakes scope start c

-- the view of a walk over the directory d: what is shown at the start is to come, of the depths in range, and
-- there are no names to follow
pub record Begins {D C : Type 0} (law : Law D C) (d : D) (start : List ℕ) (range : DepthRange)
    (view : WalkView D) : Type 0 where
  pub shown : (s : Shown) (listed : List (List ℕ)) → law.shows d start s → law.tells d listed
      → view.to_come (pending nothing (plain (scope_in range) start s) listed (count_shown s))
  pub takes : (c : Course) → MayTake view c → StartTakes (scope_in range) start c
  pub listings : view.listings_left ≡ range.budget + 1
  pub names : view.names_left ≡ 0
  pub none_listed : view.listings_open ≡ 0
  pub begun : IsBegun ⊥ view
  pub none_to_open : view.to_open ≡ 0
  pub yields_from : view.yields_from ≡ range.min
  pub may_open : view.may_open ≡ is_above range.max
  pub fails : FailsFrom range.min start [] view
  pub directory : view.directory ≡ d

-- the view of a plain walk over the directory d that begins, as far as contracts say what a call took of it
abbrev pub start_view : {D C : Type 0} → Law D C → D → List ℕ → DepthRange → WalkView D
start_view law d start range = record {
  to_come = λ p. (s : Shown) × (listed : List (List ℕ)) × law.shows d start s × law.tells d listed
      × (p ≡ pending nothing (plain (scope_in range) start s) listed (count_shown s));
  may_come = λ a. StartTakes (scope_in range) start (all_ahead a);
  directory = d;
  listings_left = range.budget + 1;
  names_left = 0;
  to_begin = 1;
  listings_open = 0;
  to_open = 0;
  may_open = is_above range.max;
  yields_from = range.min;
  may_fail = IsPassed range.min start [];
  may_fail_below = λ path depth. ⊥;
  has_ended = ⊥;
  is_idle = ⊥;
}

-- where a walk begins: the start that its entries report, the path that it queries first, the candidate of
-- that path, and the names below it that the walk follows
pub record Origin : Type 0 where
  pub root : List ℕ
  pub path : List ℕ
  pub candidate : List ℕ
  pub names : List (List ℕ)

-- the location at the path of an origin
abbrev pub origin_location : Origin → Location
origin_location origin = record {
  path = origin.path;
  root = origin.root;
  candidate = origin.candidate;
  depth = 0;
}

-- what a walk from this origin may take: what comes along its names; only the error that allocation failed;
-- or nothing, if there are more names than the greatest depth
pub data OriginTakes (origin : Origin) (range : DepthRange) (c : Course) : Type 0 where
  along : length origin.names ≤ range.max → length origin.names < 2 ^ 64 → (d : Course)
      → AlongComes (scope_in range) origin.names (origin_location origin) stop d → course.IsStartOf c d
      → OriginTakes origin range c
  lacking : course.IsStartOf c (yields no_memory stop stop) → OriginTakes origin range c
  beyond : range.max < length origin.names → course.IsStartOf c stop → OriginTakes origin range c

-- the view of a walk over the directory d: it follows the names of the origin and goes on from there, or
-- yields one error if they don't lead there; if there are more names than the greatest depth, it yields
-- nothing, has ended, and leaves the directory as it is
pub record BeginsAt {D C : Type 0} (law : Law D C) (d : D) (origin : Origin) (range : DepthRange)
    (view : WalkView D) : Type 0 where
  pub shown : (s : Shown) (listed : List (List ℕ)) → law.shows d origin.path s → law.tells d listed
      → ArePlain origin.names → length origin.names ≤ range.max
      → view.to_come (pending nothing
      (walk_from (scope_in range) (origin_location origin) s origin.names nothing) listed (count_shown s))
  pub beyond : (s : Shown) (listed : List (List ℕ)) → law.shows d origin.path s → law.tells d listed
      → range.max < length origin.names
      → view.to_come (pending nothing nothing listed 0)
  pub takes : (c : Course) → MayTake view c → OriginTakes origin range c
  pub above : range.max < length origin.names → view.has_ended
  pub idle : range.max < length origin.names → view.is_idle
  pub listings : view.listings_left ≡ range.budget + 1
  pub names : view.names_left ≤ length origin.names
  pub none_listed : view.listings_open ≡ 0
  pub begun : IsBegun (range.max < length origin.names) view
  pub none_to_open : view.to_open ≡ 0
  pub yields_from : view.yields_from ≡ range.min
  pub may_open : view.may_open ≡ is_above range.max
  pub fails : FailsFrom range.min origin.path origin.names view
  pub directory : view.directory ≡ d

-- the view of a walk over the directory d that has ended, yields nothing, and leaves the directory as it is
pub record HasEnded {D C : Type 0} (law : Law D C) (d : D) (range : DepthRange)
    (view : WalkView D) : Type 0 where
  pub comes : (path : List ℕ) (s : Shown) (listed : List (List ℕ)) → law.shows d path s → law.tells d listed
      → view.to_come (pending nothing nothing listed 0)
  pub takes : (c : Course) → MayTake view c → course.IsStartOf c stop
  pub ended : view.has_ended
  pub idle : view.is_idle
  pub listings : view.listings_left ≡ range.budget + 1
  pub names : view.names_left ≡ 0
  pub none_listed : view.listings_open ≡ 0
  pub begun : view.to_begin ≡ 0
  pub none_to_open : view.to_open ≡ 0
  pub yields_from : view.yields_from ≡ range.min
  pub may_open : view.may_open ≡ is_above range.max
  pub fails : FailsNowhere view
  pub directory : view.directory ≡ d

-- the view of a walk over the directory d for whose start allocation failed: anything may be to come, since
-- the walk yields that error instead, and it leaves the directory as it is
pub record LacksMemory {D C : Type 0} (law : Law D C) (d : D) (range : DepthRange)
    (view : WalkView D) : Type 0 where
  pub comes : (p : Pending Given) → law.tells d p.listed → view.to_come p
  pub takes : OnlyLacks view
  pub idle : view.is_idle
  pub listings : view.listings_left ≡ range.budget + 1
  pub names : view.names_left ≡ 0
  pub none_listed : view.listings_open ≡ 0
  pub begun : view.to_begin ≡ 0
  pub none_to_open : view.to_open ≡ 0
  pub yields_from : view.yields_from ≡ range.min
  pub may_open : view.may_open ≡ is_above range.max
  pub fails : FailsNowhere view
  pub directory : view.directory ≡ d
