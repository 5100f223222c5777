-- The course of the plain walk of a tree, and what may be ahead of a walk by its state.
use Rattle.std.specs.Prelude.{◌≡◌, ℕ, ◌+◌, ◌-◌, ◌^◌, min, cond, nat_lt, List, [], ◌∷◌, ⊤}
use Rattle.wax_directory.specs.declared.directory.FileType.{FileType}
use Rattle.wax_directory.specs.History.{absent, at_end, found, listed, opened, refused, unseen}
use Rattle.wax_directory.specs.Shown.{IsPlain, Items, Shown, a_folder, a_leaf, a_sealed, child_in, end}
use Rattle.wax_directory.specs.Shown.{failing, folder, join, leaf, leaf_kind, misnamed, missing, named}
use Rattle.wax_directory.specs.Shown.{no_item, no_name, not_text, sealed, unread}
use Rattle.wax_walk.specs.Course.{Course, asks, call, continued, stop, yields}
use Rattle.wax_walk.specs.declared.error.FaultKind.TheVariants.{BadName, Listing, NotAFolder, NotFound}
use Rattle.wax_walk.specs.{declared.error.FaultKind.TheVariants.NotText, Given.{Given, fault}}
use Rattle.wax_tree.specs.Plain.{HasKind, Location, WalkScope, item_location, one_deeper, plain_entry}
use Rattle.wax_tree.specs.Plain.{start_location}
use Rattle.wax_directory.specs.declared.directory.FileType.TheVariants as F

-- the entries of a folder have names that a path can hold, the misnamed items have none, at all depths
abbrev pub AreNamed : Items → Type 0
AreNamed end = ⊤
AreNamed (leaf x link rest) = IsPlain x × AreNamed rest
AreNamed (folder x inner rest) = IsPlain x × AreNamed inner × AreNamed rest
AreNamed (sealed x rest) = IsPlain x × AreNamed rest
AreNamed (misnamed x kind rest) = ¬ (IsPlain x) × AreNamed rest
AreNamed (unread rest) = AreNamed rest
AreNamed (not_text rest) = AreNamed rest

abbrev pub IsNamed : Shown → Type 0
IsNamed (a_folder l) = AreNamed l
IsNamed s = ⊤

-- a location that is looked up in the directory, and then d if this kind is there. If nothing is there, the
-- walk ends with that error; if it couldn't be read, the error comes and then `after`
pub data IsAsked (at : Location) (there : FileType → Course → Type 0) (after c : Course) : Type 0 where
  is_there : (kind : FileType) (d : Course) → there kind d → c ≡ asks (call at.path (found at.path kind)) d
      → IsAsked at there after c
  is_missing : c ≡ asks (call at.path (absent at.path)) (yields (fault NotFound at.path at.depth) stop stop)
      → IsAsked at there after c
  is_failing : c ≡ asks (call at.path (unseen at.path)) (yields (fault Listing at.path at.depth) stop after)
      → IsAsked at there after c

-- the location of a name below, one level deeper
abbrev pub onward_location : Location → List ℕ → Location
onward_location at x = record {
  path = join at.path x;
  root = at.root;
  candidate = join at.candidate x;
  depth = min (at.depth + 1) (2 ^ 64 - 1);
}

-- ---- the course of a tree

module _ (scope : WalkScope) where
  -- an entry at a depth, unless that is less than the least; then what is below it, and what comes after it
  abbrev pub course_at_depth : ℕ → Given → Course → Course → Course
  course_at_depth depth x below after = cond (nat_lt depth scope.min) (continued below after)
      (yields x below after)

  -- what is below a folder at a depth, if that is less than the greatest
  abbrev pub course_above_max : ℕ → Course → Course
  course_above_max depth c = cond (nat_lt depth scope.max) c stop

  -- a folder that can't be listed
  abbrev pub refused_course : List ℕ → ℕ → Course
  refused_course path depth = asks (call path (refused path)) (yields (fault Listing path depth) stop stop)

  -- the items of a folder; `at` is the folder's location, with the depth of its items
  abbrev pub items_course : Location → Items → Course
  items_course at end = asks (call at.path at_end) stop
  items_course at (leaf x link rest) = asks (call at.path (listed (named x (leaf_kind link))))
      (course_at_depth at.depth (plain_entry (item_location at x) (leaf_kind link)) stop
      (items_course at rest))
  items_course at (folder x inner rest) =
      let path = join at.path x in
      asks (call at.path (listed (named x F.Folder)))
      (course_at_depth at.depth (plain_entry (item_location at x) F.Folder)
      (course_above_max at.depth (asks (call path (opened path))
      (items_course (one_deeper (item_location at x)) inner)))
      (items_course at rest))
  items_course at (sealed x rest) = asks (call at.path (listed (named x F.Folder)))
      (course_at_depth at.depth (plain_entry (item_location at x) F.Folder)
      (course_above_max at.depth (refused_course (join at.path x) at.depth)) (items_course at rest))
  items_course at (misnamed x kind rest) = asks (call at.path (listed (named x kind)))
      (yields (fault BadName at.path (at.depth - 1)) stop (items_course at rest))
  items_course at (unread rest) = asks (call at.path (listed no_item))
      (yields (fault Listing at.path (at.depth - 1)) stop (items_course at rest))
  items_course at (not_text rest) = asks (call at.path (listed no_name))
      (yields (fault NotText at.path (at.depth - 1)) stop (items_course at rest))

  -- what comes of an entered folder; `at` is its location, with the depth of its items
  abbrev pub entered_course : Location → Shown → Course
  entered_course at (a_folder l) = asks (call at.path (opened at.path)) (items_course at l)
  entered_course at s = refused_course at.path (at.depth - 1)

  -- what is below an entry
  abbrev pub below_course : Location → Shown → Course
  below_course at (a_folder l) = course_above_max at.depth (entered_course (one_deeper at) (a_folder l))
  below_course at a_sealed = course_above_max at.depth (entered_course (one_deeper at) a_sealed)
  below_course at s = stop

  -- an entry, what is below it, and what comes after it
  abbrev pub entry_course : Location → FileType → Shown → Course → Course
  entry_course at kind s after =
      course_at_depth at.depth (plain_entry at kind) (below_course at s) after

  -- what comes of a location where this kind was found, along these names, and `after` that
  abbrev pub FoundComes : List (List ℕ) → Location → Course → FileType → Course → Type 0
  FoundComes [] at after kind c = (s : Shown) × IsNamed s × HasKind s kind
      × (c ≡ entry_course at kind s after)
  FoundComes (x ∷ names) at after F.Folder c = IsAsked (onward_location at x)
      (FoundComes names (onward_location at x) after) after c
  FoundComes (x ∷ names) at after F.File c = c ≡ yields (fault NotAFolder at.path at.depth) stop stop
  FoundComes (x ∷ names) at after F.Link c = c ≡ yields (fault NotAFolder at.path at.depth) stop stop

  abbrev pub AlongComes : List (List ℕ) → Location → Course → Course → Type 0
  AlongComes names at after c = IsAsked at (FoundComes names at after) after c

  -- a location, by what is there, and what comes after it
  abbrev pub place_course : Location → Shown → Course → Course
  place_course at (a_leaf link) after = asks (call at.path (found at.path (leaf_kind link)))
      (entry_course at (leaf_kind link) (a_leaf link) after)
  place_course at (a_folder l) after = asks (call at.path (found at.path F.Folder))
      (entry_course at F.Folder (a_folder l) after)
  place_course at a_sealed after = asks (call at.path (found at.path F.Folder))
      (entry_course at F.Folder a_sealed after)
  place_course at missing after = asks (call at.path (absent at.path))
      (yields (fault NotFound at.path at.depth) stop stop)
  place_course at failing after = asks (call at.path (unseen at.path))
      (yields (fault Listing at.path at.depth) stop after)

  -- the walk along names from a location where s is shown: from the last of them on, or one error if they
  -- don't lead there
  abbrev pub along_course : List (List ℕ) → Location → Shown → Course
  along_course [] at s = place_course at s stop
  along_course (x ∷ names) at (a_folder l) = asks (call at.path (found at.path F.Folder))
      (along_course names (one_deeper (item_location at x)) (child_in x l))
  along_course (x ∷ names) at a_sealed = asks (call at.path (found at.path F.Folder))
      (place_course (one_deeper (item_location at x)) failing stop)
  along_course (x ∷ names) at (a_leaf link) = asks (call at.path (found at.path (leaf_kind link)))
      (yields (fault NotAFolder at.path at.depth) stop stop)
  along_course (x ∷ names) at s = place_course at s stop

  -- the walk from a start
  abbrev pub plain_course : List ℕ → Shown → Course
  plain_course start s = place_course (start_location start) s stop
