-- What is to come of a walk, by its state.
use Rattle.std.specs.Prelude.{◌≡◌, ℕ, ◌+◌, ◌-◌, ◌^◌, ◌≤◌, Bool, true, false, cond, length, map, List, [], ◌∷◌}
use Rattle.std.specs.{Prelude.{◌++◌, Option, Some, None, Result, ◌⊎◌, ⊤}, List.Contains}
use Rattle.wax_directory.specs.{Law.Law, Shown.{Items, Shown, a_folder, ShowsIn}}
use Rattle.wax_walk.specs.{declared.error.WalkError.WalkError, declared.entry.TreeEntry.TreeEntry}
use Rattle.wax_walk.specs.Entries.{facts_of, given_outcome}
use Rattle.wax_walk.specs.Forest.{Forest, nothing, lists, followed_by, Pending, all_pending}
use Rattle.wax_walk.specs.{Given.{Facts, Given}, Course.{Ahead, IsStartOf, Course, ahead, continued, stop}}
use Rattle.wax_walk.specs.View.{WalkView, is_above}
use Rattle.wax_tree.specs.Courses.{AlongComes, AreNamed, IsNamed, entered_course, items_course}
use Rattle.wax_tree.specs.{declared.steps.OpenFolder.OpenFolder, declared.steps.StartPoint.StartPoint}
use Rattle.wax_tree.specs.{declared.steps.Step.Step, declared.steps.Step.TheVariants.Gives}
use Rattle.wax_tree.specs.declared.steps.Steps.{Steps}
use Rattle.wax_tree.specs.Plain.{IsFolder, WalkScope, Location, count, count_shown, items_forest, unlisted}
use Rattle.wax_tree.specs.{Prefix.{ArePlain, from_last, walk_from}, Reaching.{MayFailAt, MayFailBelow}}
use Rattle.wax_tree.specs.declared.location.Location as code

abbrev pub if_some : {A : Type 0} → Option A → ℕ → ℕ
if_some None n = 0
if_some (Some x) n = n

-- an item of the walk, as contracts see it
abbrev pub tree_given : Result TreeEntry WalkError → Given
tree_given = given_outcome facts_of facts_of

-- the item that a step yields, if any
abbrev pub step_given : Step → Option Given
step_given (Gives x) = Some (tree_given x)
step_given x = None

-- the item that a call returns, if any
abbrev pub tree_answer : Option (Result TreeEntry WalkError) → Option Given
tree_answer None = None
tree_answer (Some x) = Some (tree_given x)

-- a location as contracts see it
abbrev pub located : code.Location → Location
located at = record {
  path = at.path.path;
  root = at.path.root;
  candidate = at.path.candidate;
  depth = at.depth;
}

-- where an entry is
abbrev pub entry_location : Facts → Location
entry_location f = record { path = f.path; root = f.root; candidate = f.candidate; depth = f.depth }

-- what is below a folder that was entered
abbrev pub entered_forest : WalkScope → Location → Shown → Forest Given
entered_forest scope at (a_folder l) = lists at.path (items_forest scope at l)
entered_forest scope at s = unlisted scope at.path (at.depth - 1)

-- if the walk is at its start point, no folder was entered and none is open
abbrev pub IsAlone : {C : Type 0} → Option StartPoint → Option code.Location → List (OpenFolder C) → Type 0
IsAlone None e levels = ⊤
IsAlone (Some place) e levels = (e ≡ None) × (levels ≡ [])

abbrev pub cursors_of : {C : Type 0} → List (OpenFolder C) → List C
cursors_of levels = map (λ level. level.cursor) levels

-- the folders of these levels were listed
abbrev pub WereListed : {C : Type 0} → List (OpenFolder C) → List (List ℕ) → Type 0
WereListed [] listed = ⊤
WereListed (level ∷ inner) listed =
    Contains listed level.folder.path.path × WereListed inner listed

-- what a walk at rest has yet to yield: the items that its cursors have, what comes of them, how many items
-- are listed for that, and the folders that were listed
pub record Rest : Type 0 where
  pub has : List Items
  pub forest : Forest Given
  pub count : ℕ
  pub listed : List (List ℕ)

module _ (shows : List ℕ → Shown → Type 0) (scope : WalkScope) where
  -- f is what comes of the start point, if there is one, and then `after`; at most n items are listed for it
  abbrev pub FirstShows : Option StartPoint → Forest Given → Forest Given → ℕ → Type 0
  FirstShows None f after n = (f ≡ after) × (n ≡ 0)
  FirstShows (Some place) f after n = (s : Shown) × shows place.at.path.path s × ArePlain
      (from_last place.names.items) × (place.at.depth + length place.names.items ≤ 2 ^ 64 - 1)
      × (count_shown s ≤ n) × (f ≡ walk_from scope (located place.at) s
      (from_last place.names.items) after)

  -- f is what comes of the last yielded folder, if it is to be entered; n items are listed for it
  abbrev pub EnteredShows : Option code.Location → Forest Given → ℕ → Type 0
  EnteredShows None f n = (f ≡ nothing) × (n ≡ 0)
  EnteredShows (Some e) f n = (s : Shown) × shows e.path.path s × IsFolder s ×
      (f ≡ entered_forest scope (located e) s) × (n ≡ count_shown s)

  -- f is what comes of the open folders, outermost first, if their cursors have these items; n items are
  -- listed for it
  abbrev pub LevelsShow : {C : Type 0} → List (OpenFolder C) → List Items → Forest Given → ℕ → Type 0
  LevelsShow [] [] f n = (f ≡ nothing) × (n ≡ 0)
  LevelsShow [] (l ∷ has) f n = ⊥
  LevelsShow (level ∷ inner) [] f n = ⊥
  LevelsShow (level ∷ inner) (l ∷ has) f n = (g : Forest Given) × (m : ℕ) × ShowsIn shows
      level.folder.path.path l × LevelsShow inner has g m
      × (f ≡ followed_by g (items_forest scope (located level.folder) l)) × (n ≡ m + count l)

abbrev pub scope_of : {D C : Type 0} → Steps D C → WalkScope
scope_of w = record { min = w.min; max = w.max }

-- the walk yields nothing more
abbrev pub HasStopped : {D C : Type 0} → Steps D C → Type 0
HasStopped w = (w.has_ended ≡ true) ⊎ ((w.first ≡ None) × (w.entered ≡ None) × (w.levels.items ≡ []))

-- at most how many more items it may take from listings
abbrev pub allowance : {D C : Type 0} → Steps D C → ℕ
allowance w = cond w.has_ended 0 (w.budget + 1)

-- how many names it has yet to follow
abbrev pub names_of_first : Option StartPoint → ℕ
names_of_first None = 0
names_of_first (Some place) = length place.names.items

abbrev pub names_left : {D C : Type 0} → Steps D C → ℕ
names_left w = names_of_first w.first

-- 1 if the entry where it begins is still to come
abbrev pub begins : {D C : Type 0} → Steps D C → ℕ
begins w = cond w.has_ended 0 (if_some w.first 1)

-- how many listings are open; none count once it has ended with an error
abbrev pub open_lists : {D C : Type 0} → Steps D C → ℕ
open_lists w = cond w.has_ended 0 (length w.levels.items)

-- 1 if the last yielded folder is to be opened, else 0
abbrev pub entering_after : Option StartPoint → Option code.Location → ℕ
entering_after None e = if_some e 1
entering_after (Some place) e = 0

abbrev pub entering : {D C : Type 0} → Steps D C → ℕ
entering w = cond w.has_ended 0 (entering_after w.first w.entered)

module _ (scope : WalkScope) where
  -- what may come of the start point, if there is one, and then `after`
  abbrev pub FirstComes : Option StartPoint → Course → Course → Type 0
  FirstComes None after c = c ≡ after
  FirstComes (Some place) after c =
      AlongComes scope (from_last place.names.items) (located place.at) after c

  -- what may come of the last yielded folder, if it is to be entered
  abbrev pub EnteredComes : Option StartPoint → Option code.Location → Course → Type 0
  EnteredComes (Some place) e c = c ≡ stop
  EnteredComes None None c = c ≡ stop
  EnteredComes None (Some e) c = (s : Shown) × IsNamed s × IsFolder s
      × (c ≡ entered_course scope (located e) s)

  -- what may come of the open folders, outermost first
  abbrev pub LevelsCome : {C : Type 0} → List (OpenFolder C) → Course → Type 0
  LevelsCome [] c = c ≡ stop
  LevelsCome (level ∷ inner) c = (l : Items) × AreNamed l × (g : Course) × LevelsCome inner g
      × (c ≡ continued g (items_course scope (located level.folder) l))

-- nothing is ahead of a walk that has ended
abbrev pub AheadUnless : Bool → Type 0 → Ahead → Type 0
AheadUnless true going a = a ≡ ahead stop stop
AheadUnless false going a = going

module _ {D C : Type 0} where
  -- what may be ahead of a walk that goes on, by what is in the folders that it has to list
  pub record GoesAhead (w : Steps D C) (a : Ahead) : Type 0 where
    pub back : Course
    pub first : FirstComes (scope_of w) w.first back a.after
    pub entered : EnteredComes (scope_of w) w.first w.entered a.below
    pub levels : LevelsCome (scope_of w) w.levels.items back

  abbrev pub ComesAhead : Steps D C → Ahead → Type 0
  ComesAhead w a = AheadUnless w.has_ended (GoesAhead w a) a

  -- the same, as far as it is known
  abbrev pub MayBeAhead : Steps D C → Ahead → Type 0
  MayBeAhead w a = (b : Ahead) × ComesAhead w b × IsStartOf a.below b.below × IsStartOf a.after b.after

module _ {D C : Type 0} (law : Law D C) where
  -- the walk has no start point and no folder to enter, hasn't ended, and has `rest` yet to yield
  pub record AtRest (w : Steps D C) (rest : Rest) : Type 0 where
    pub levels : LevelsShow (law.shows w.directory) (scope_of w) w.levels.items rest.has rest.forest
        rest.count
    pub held : law.holds w.directory (cursors_of w.levels.items) rest.has
    pub told : law.tells w.directory rest.listed
    pub opened : WereListed w.levels.items rest.listed
    pub first : w.first ≡ None
    pub entered : w.entered ≡ None
    pub running : w.has_ended ≡ false

  -- p is to come of the walk
  pub record PlainToCome (w : Steps D C) (p : Pending Given) : Type 0 where
    pub has : List Items
    pub back : Forest Given
    pub of_first : ℕ
    pub of_entered : ℕ
    pub of_levels : ℕ
    pub first : FirstShows (law.shows w.directory) (scope_of w) w.first p.after back of_first
    pub entered : EnteredShows (law.shows w.directory) (scope_of w) w.entered p.below of_entered
    pub levels : LevelsShow (law.shows w.directory) (scope_of w) w.levels.items has back of_levels
    pub held : law.holds w.directory (cursors_of w.levels.items) has
    pub few : of_first + (of_entered + of_levels) ≤ p.items
    pub alone : IsAlone w.first w.entered w.levels.items
    pub told : law.tells w.directory p.listed
    pub opened : WereListed w.levels.items p.listed
    pub ended : w.has_ended ≡ true → (p.below ≡ nothing) × (p.after ≡ nothing)

  -- the view of the walk
  abbrev pub steps_view : Steps D C → WalkView D
  steps_view w = record {
    to_come = PlainToCome w;
    may_come = MayBeAhead w;
    directory = w.directory;
    listings_left = allowance w;
    names_left = names_left w;
    to_begin = begins w;
    listings_open = open_lists w;
    to_open = entering w;
    may_open = is_above w.max;
    yields_from = w.min;
    may_fail = MayFailAt w;
    may_fail_below = MayFailBelow w;
    has_ended = HasStopped w;
    is_idle = HasStopped w;
  }

-- what is to come goes from p to q without an item: both are equal, or one folder was listed
abbrev pub MovesOn : Pending Given → Pending Given → Type 0
MovesOn p q = ((all_pending p ≡ all_pending q) × (q.listed ≡ p.listed))
    ⊎ ((path : List ℕ) × (all_pending p ≡ lists path (all_pending q)) × (q.listed ≡ p.listed ++ path ∷ []))
