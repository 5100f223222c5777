-- What a step of a walk does.
use Rattle.std.specs.Prelude.{◌≡◌, ℕ, ◌+◌, ◌-◌, ◌*◌, ◌<◌, ◌≤◌, ◌⊎◌, true, false, cond, length, Option, Some}
use Rattle.std.specs.{Prelude.{None, List, [], ◌++◌, string_bytes, ⊤}, List.Contains}
use Rattle.wax_directory.specs.{Counting.no_counts, declared.tally.Tally.Tally, Law.{Law, HoldsLast}}
use Rattle.wax_directory.specs.{Shown.{IsPlain, Items, Shown, ShowsIn}, declared.directory.ListItem.ListItem}
use Rattle.wax_directory.specs.declared.directory.FileType.{FileType}
use Rattle.wax_walk.specs.Course.{Ahead, DirectoryCall, Course, CutsShort, all_ahead, answers, asking}
use Rattle.wax_walk.specs.Course.{continued, stop, yields}
use Rattle.wax_walk.specs.declared.error.FaultKind.TheVariants.{BadName, Listing, NotText}
use Rattle.wax_walk.specs.Forest.{Forest, nothing, followed_by, Pending, pending}
use Rattle.wax_walk.specs.{Given.{Facts, Given, fault}, Opened.items_listed}
use Rattle.wax_walk.specs.View.{WalkView, Accounts, GivesOrStops, IsLast, IsMisplaced, Takes, is_above}
use Rattle.wax_walk.specs.View.{fault_counts, IsErrorAt, IsFolderAt, items_lost, how_many, IsMemoryError}
use Rattle.wax_walk.specs.View.{opens_one}
use Rattle.wax_tree.specs.{declared.steps.OpenFolder.OpenFolder, declared.steps.StartPoint.StartPoint}
use Rattle.wax_tree.specs.{declared.steps.Step.Step, declared.steps.Step.TheVariants.{Gives, GoesOn, Ends}}
use Rattle.wax_tree.specs.declared.steps.Steps.{Steps}
use Rattle.wax_tree.specs.Courses.{AreNamed, FoundComes, IsNamed, entered_course, items_course}
use Rattle.wax_tree.specs.Plain.{IsFolder, WalkScope, Location, item_location, items_forest, one_deeper}
use Rattle.wax_tree.specs.Prefix.{from_last}
use Rattle.wax_tree.specs.Reaching.{FolderSet, LeadsUnseen, OfEntered, ReachesFrom, no_folders}
use Rattle.wax_tree.specs.Walking.{if_some, step_given, cursors_of, Rest, HasStopped, allowance, names_left}
use Rattle.wax_tree.specs.Walking.{ComesAhead, LevelsCome, entry_location, located, scope_of, tree_given}
use Rattle.wax_tree.specs.Walking.{AtRest, PlainToCome, steps_view, MovesOn, open_lists, entering, begins}
use Rattle.wax_directory.specs.declared.directory.ListItem.TheVariants as I
use Rattle.wax_directory.specs.declared.directory.FileType.TheVariants as F
use Rattle.wax_tree.specs.declared.location.Location as code

-- the misses, failures and bad names of k are those of n, and those of at most `lost` items besides; n has no
-- more leaves
pub record IsCounted (n : Tally) (lost : ℕ) (k : Tally) : Type 0 where
  pub misses : k.misses ≡ n.misses
  pub leaves : n.leaves ≤ k.leaves
  pub failures_lost : ℕ
  pub failures : k.failures ≡ n.failures + failures_lost
  pub names_lost : ℕ
  pub bad_names : k.bad_names ≡ n.bad_names + names_lost
  pub within : failures_lost + names_lost ≤ lost

-- what a call of the directory counted, how many items it took from listings, how many names were left to
-- follow, and how many items are made of its result, and of what the walk begins with
pub record Asked : Type 0 where
  pub counts : Tally
  pub taken : ℕ
  pub names : ℕ
  pub made : ℕ

abbrev pub nothing_asked : ℕ → ℕ → Asked
nothing_asked names made = record { counts = no_counts; taken = 0; names = names; made = made }

-- at most how many steps a walk makes for its start point
abbrev pub first_steps : Option StartPoint → ℕ
first_steps None = 0
first_steps (Some place) = 4 + length place.names.items

module _ {D C : Type 0} where
  -- what a step does with a result of the directory, without another call
  pub record UsesAnswer (asked : Asked) (old : Steps D C) (r : Step) (new : Steps D C) : Type 0 where
    pub goes_on : r ≡ Ends → ⊥
    pub directory : new.directory ≡ old.directory
    pub counts : IsCounted (fault_counts (step_given r)) (items_lost (step_given r)) asked.counts
    pub passed : ℕ
    pub passes : old.min ≡ 0 → passed ≡ 0
    pub gives : ¬ (IsMemoryError (step_given r))
        → asked.made ≡ how_many (step_given r) + (passed + begins new)
    pub passes_alone : how_many (step_given r) ≡ 1 → passed ≡ 0
    pub going : ¬ (IsLast (step_given r)) → 0 < allowance old → 0 < allowance new
    pub folders : ℕ
    pub folders_passed : folders ≤ passed
    pub enters : old.has_ended ≡ false → old.first ≡ None → old.entered ≡ None
        → ¬ (IsMemoryError (step_given r))
        → entering new ≡ folders + opens_one (is_above old.max) (step_given r)
    pub takes : Takes (step_given r) (allowance old) asked.taken (allowance new)
    pub ends : IsLast (step_given r) → new.has_ended ≡ true
    pub names : names_left new ≤ asked.names
    pub misplaced : IsMisplaced (step_given r) → 0 < asked.names

  -- if the item of a step doesn't end the walk, so many listings are open after it
  abbrev pub KeepsLists : ℕ → Step → Steps D C → Type 0
  KeepsLists lists r new = ¬ (IsLast (step_given r)) → open_lists new ≡ lists

  -- the depths stay as they are
  pub record Remembers (old : Steps D C) (r : Step) (new : Steps D C) : Type 0 where
    pub above : new.max ≡ old.max
    pub from : new.min ≡ old.min

  -- if the item is an error, it is of one of these folders; after it, errors may come of these and, below it,
  -- of the item itself if it is a folder, or of one of `entered` if there is no item
  pub record StepPlaces (from entered : FolderSet) (most : ℕ) (r : Step) (new : Steps D C) : Type 0 where
    pub item : (path : List ℕ) (depth : ℕ) → IsErrorAt path depth (step_given r)
        → (inside : ℕ) × (depth ≡ inside - 1) × from path inside
    pub later : (path : List ℕ) (inside : ℕ) → new.has_ended ≡ false → ReachesFrom new no_folders path inside
        → from path inside
    pub below : (path : List ℕ) (inside : ℕ) → new.has_ended ≡ false
        → LeadsUnseen new.min (OfEntered new.entered) path inside
        → IsFolderAt (is_above most) path (inside - 1) (step_given r)
        ⊎ ((step_given r ≡ None) × entered path inside)

  -- at most how many items the walk has yet to yield
  abbrev pub items_left : Steps D C → ℕ
  items_left w = 2 * w.budget + (if_some w.first 2 + (if_some w.entered 1 + cond w.has_ended 0 1))

  -- at most how many steps it makes before the next item
  abbrev pub steps_left : Steps D C → ℕ
  steps_left w = 3 * w.budget + (first_steps w.first + (if_some w.entered 2 + length w.levels.items))

  -- at most a more items are left and, if the walk goes on without an item, at most b more steps
  abbrev pub IncreasesBy : ℕ → ℕ → Steps D C → Step → Steps D C → Type 0
  IncreasesBy a b old GoesOn new = (items_left new ≤ items_left old + a)
      × (steps_left new ≤ steps_left old + b)
  IncreasesBy a b old r new = items_left new ≤ items_left old + a

  -- if the walk goes on, at most 2 more items and `3 + names` more steps are left, else at most 1 more item
  abbrev pub IncreasesByNames : ℕ → Steps D C → Step → Steps D C → Type 0
  IncreasesByNames names old GoesOn new =
      (items_left new ≤ items_left old + 2) × (steps_left new ≤ steps_left old + (3 + names))
  IncreasesByNames names old r new = items_left new ≤ items_left old + 1

  -- a step that yields an item leaves fewer items; one that goes on leaves no more items and no more steps
  abbrev pub WeaklyDecreases : Steps D C → Step → Steps D C → Type 0
  WeaklyDecreases old (Gives x) new = items_left new < items_left old
  WeaklyDecreases old GoesOn new = (items_left new ≤ items_left old) × (steps_left new ≤ steps_left old)
  WeaklyDecreases old Ends new = ⊤

  -- a step that yields an item leaves fewer items; one that goes on leaves no more items and fewer steps
  abbrev pub Decreases : Steps D C → Step → Steps D C → Type 0
  Decreases old (Gives x) new = items_left new < items_left old
  Decreases old GoesOn new = (items_left new ≤ items_left old) × (steps_left new < steps_left old)
  Decreases old Ends new = ⊤

-- ---- the course of a step

-- what may be ahead of a walk, as one course
abbrev pub ComesWhole : {D C : Type 0} → Steps D C → Course → Type 0
ComesWhole w c = (a : Ahead) × ComesAhead w a × (c ≡ all_ahead a)

-- an entry is remembered if it is a folder above this depth
pub data Enters (most : ℕ) (f : Facts) (old new : Option code.Location) : Type 0 where
  remembered : (e : code.Location) → new ≡ Some e → located e ≡ one_deeper (entry_location f)
      → f.kind ≡ F.Folder → f.depth < most → Enters most f old new
  passed_over : new ≡ old → ¬ ((f.kind ≡ F.Folder) × (f.depth < most)) → Enters most f old new

-- what may be ahead where the open folders come last
abbrev pub ComesLast : {D C : Type 0} → Steps D C → (Course → Course → Type 0) → Course → Type 0
ComesLast w comes c = (rest : Course) × LevelsCome (scope_of w) w.levels.items rest × comes rest c

-- what may come of an entry, and then of the rest
abbrev pub EntryComes : WalkScope → Facts → Course → Course → Type 0
EntryComes scope f rest c = FoundComes scope [] (entry_location f) rest f.kind c

-- what may come of a place where this kind was found
abbrev pub PlaceComes : WalkScope → StartPoint → FileType → Course → Course → Type 0
PlaceComes scope place kind rest c =
    FoundComes scope (from_last place.names.items) (located place.at) rest kind c

-- what may come of a folder that is entered
abbrev pub FolderComes : WalkScope → Location → Course → Course → Type 0
FolderComes scope at rest c = (s : Shown) × IsNamed s × IsFolder s
    × (c ≡ continued (entered_course scope at s) rest)

-- what may come of an item of the folder at a location
abbrev pub ItemComes : WalkScope → Location → ListItem → Course → Course → Type 0
ItemComes scope at (I.Name x kind) rest c =
    let name = string_bytes x in
    (IsPlain name × FoundComes scope [] (item_location at name) rest kind c)
    ⊎ (¬ (IsPlain name) × (c ≡ yields (fault BadName at.path (at.depth - 1)) stop rest))
ItemComes scope at I.Failed rest c = c ≡ yields (fault Listing at.path (at.depth - 1)) stop rest
ItemComes scope at I.NotText rest c = c ≡ yields (fault NotText at.path (at.depth - 1)) stop rest

-- what may come of the rest of a listed folder
abbrev pub RestComes : WalkScope → Location → Course → Course → Type 0
RestComes scope at rest c = (l : Items) × AreNamed l × (c ≡ continued (items_course scope at l) rest)

-- what may come of an item and then of the rest of its folder
abbrev pub TakenComes : WalkScope → Location → ListItem → Course → Course → Type 0
TakenComes scope at x rest c = (d : Course) × RestComes scope at rest d × ItemComes scope at x d c

-- what a step yields, and what is ahead then
abbrev pub next_course : Step → Ahead → Course
next_course (Gives x) a = yields (tree_given x) a.below a.after
next_course GoesOn a = all_ahead a
next_course Ends a = stop

-- an error of the step cuts the course short after these calls
abbrev pub CutsOff : {D C : Type 0} → List DirectoryCall → Step → Steps D C → Type 0
CutsOff calls r new = (x : Given) × (step_given r ≡ Some x) × CutsShort calls x × (new.has_ended ≡ true)

-- what a step makes of the answers of these calls: some course was ahead; whatever is ahead after the step,
-- before it were what the step yielded and that; or the course is cut off
pub record UsesCourse {D C : Type 0} (calls : List DirectoryCall) (comes : Course → Type 0) (r : Step)
    (new : Steps D C) : Type 0 where
  pub some : (c : Course) × comes c
  pub follows : ((a : Ahead) → ComesAhead new a → comes (next_course r a)) ⊎ CutsOff calls r new

-- what a step does that asks the directory
pub record StepCourse {D C : Type 0} (law : Law D C) (old : Steps D C) (comes : Course → Type 0) (r : Step)
    (new : Steps D C) : Type 0 where
  pub calls : List DirectoryCall
  pub answered : law.answered new.directory ≡ law.answered old.directory ++ answers calls
  pub spends : Takes (step_given r) (allowance old) (items_listed (answers calls)) (allowance new)
  pub uses : UsesCourse calls (λ c. comes (asking calls c)) r new

-- what is to come of a folder's items, and after them of a walk at rest
abbrev pub listing_pending : WalkScope → Location → Items → Rest → ℕ → Pending Given
listing_pending scope at l rest items = pending nothing (followed_by (items_forest scope at l) rest.forest)
    rest.listed items

module _ {D C : Type 0} (law : Law D C) where
  -- what a step does if p was to come
  abbrev pub StepIs : Steps D C → Pending Given → Step → Steps D C → Type 0
  StepIs old p (Gives x) new = GivesOrStops (steps_view law old) p (step_given (Gives x)) (steps_view law new)
  StepIs old p GoesOn new = (q : Pending Given) × PlainToCome law new q × MovesOn p q ×
      (q.items + allowance old ≤ p.items + allowance new)
  StepIs old p Ends new = GivesOrStops (steps_view law old) p None (steps_view law new)

  -- what a step does if the walk is at rest, and `head`, for which at most k items are listed, is to come
  -- before the rest
  abbrev pub Continues : Steps D C → (Forest Given → Forest Given) → ℕ → Step → Steps D C → Type 0
  Continues old head k r new = (rest : Rest) (items : ℕ) → AtRest law old rest → k + rest.count ≤ items
      → StepIs old (pending nothing (head rest.forest) rest.listed items) r new

  -- a folder was popped and has the items l, and the walk without it is at rest
  pub record IsPopped (w : Steps D C) (level : OpenFolder C) (l : Items) (rest : Rest) : Type 0 where
    pub rests : AtRest law w rest
    pub held : HoldsLast law w.directory (cursors_of w.levels.items) rest.has level.cursor l
    pub shown : ShowsIn (law.shows w.directory) level.folder.path.path l
    pub opened : Contains rest.listed level.folder.path.path

  -- what a step takes and counts
  pub record StepAnswers (old : WalkView D) (r : Step) (new : Steps D C) : Type 0 where
    pub goes_on : r ≡ Ends → ⊥
    pub accounts : Accounts law old (step_given r) (steps_view law new)
    pub names_left : names_left new ≤ old.names_left
    pub misplaced : IsMisplaced (step_given r) → 0 < old.names_left
    pub to_open : ¬ (r ≡ GoesOn) → entering new ≡ opens_one old.may_open (step_given r)

  -- what every step does
  pub record IsStep (old : Steps D C) (r : Step) (new : Steps D C) : Type 0 where
    pub accounts : Accounts law (steps_view law old) (step_given r) (steps_view law new)
    pub at_end : r ≡ Ends → HasStopped new
    pub stays : HasStopped old → (r ≡ Ends) × HasStopped new
    pub idles : HasStopped old → new.directory ≡ old.directory
    pub names : names_left new ≤ names_left old
    pub misplaced : IsMisplaced (step_given r) → 0 < names_left old
    pub to_open : ¬ (r ≡ GoesOn) → entering new ≡ opens_one (is_above old.max) (step_given r)
    pub above : new.max ≡ old.max
    pub from : new.min ≡ old.min
