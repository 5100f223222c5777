-- The plain walk of what a directory shows.
use Rattle.std.specs.Prelude.{◌≡◌, ℕ, ◌+◌, ◌-◌, cond, List, [], nat_lt, ⊤}
use Rattle.wax_directory.specs.declared.directory.FileType.{FileType}
use Rattle.wax_directory.specs.declared.directory.FileType.TheVariants.{Folder}
use Rattle.wax_directory.specs.Shown.{Items, end, leaf, folder, sealed, misnamed, unread, not_text, Shown}
use Rattle.wax_directory.specs.Shown.{a_leaf, a_folder, a_sealed, missing, failing, leaf_kind, join}
use Rattle.wax_walk.specs.declared.error.FaultKind.TheVariants.{NotFound, Listing, BadName, NotText}
use Rattle.wax_walk.specs.Forest.{Forest, nothing, item, lists, followed_by}
use Rattle.wax_walk.specs.Given.{Given, entry, fault, kept}

-- how many items there are at all depths
abbrev pub count : Items → ℕ
count end = 0
count (leaf x link rest) = 1 + count rest
count (folder x inner rest) = 1 + (count inner + count rest)
count (sealed x rest) = 1 + count rest
count (misnamed x kind rest) = 1 + count rest
count (unread rest) = 1 + count rest
count (not_text rest) = 1 + count rest

abbrev pub count_shown : Shown → ℕ
count_shown (a_folder l) = count l
count_shown x = 0

-- the depths of the entries that a walk yields
pub record WalkScope : Type 0 where
  pub min : ℕ
  pub max : ℕ

-- a path, the path where its walk starts, its candidate (the names that lead there from the start), and its
-- depth (how many they are)
pub record Location : Type 0 where
  pub path : List ℕ
  pub root : List ℕ
  pub candidate : List ℕ
  pub depth : ℕ

abbrev pub start_location : List ℕ → Location
start_location start = record { path = start; root = start; candidate = []; depth = 0 }

-- the location of a name in a folder; `at` is the folder's, with the depth of its items
abbrev pub item_location : Location → List ℕ → Location
item_location at x = record {
  path = join at.path x;
  root = at.root;
  candidate = join at.candidate x;
  depth = at.depth;
}

abbrev pub one_deeper : Location → Location
one_deeper at = record {
  path = at.path;
  root = at.root;
  candidate = at.candidate;
  depth = at.depth + 1;
}

-- what is shown is a folder, which may be one that can't be listed
abbrev pub IsFolder : Shown → Type 0
IsFolder (a_folder l) = ⊤
IsFolder a_sealed = ⊤
IsFolder s = ⊥

-- something is shown, of this file type
abbrev pub HasKind : Shown → FileType → Type 0
HasKind (a_leaf link) k = k ≡ leaf_kind link
HasKind (a_folder l) k = k ≡ Folder
HasKind a_sealed k = k ≡ Folder
HasKind s k = ⊥

-- the kept entry at a location
abbrev pub plain_entry : Location → FileType → Given
plain_entry at kind = entry kept (record {
  path = at.path;
  root = at.root;
  candidate = at.candidate;
  depth = at.depth;
  kind = kind;
})

module _ (scope : WalkScope) where
  -- an entry at a depth, unless that is less than the least; then what is below it, and what comes after it
  abbrev pub at_depth : ℕ → Given → Forest Given → Forest Given → Forest Given
  at_depth depth x below after = cond (nat_lt depth scope.min) (followed_by below after) (item x below after)

  -- what is below a folder at a depth, if that is less than the greatest
  abbrev pub above_max : ℕ → Forest Given → Forest Given
  above_max depth f = cond (nat_lt depth scope.max) f nothing

  -- what is below a folder that can't be listed: an error
  abbrev pub unlisted : List ℕ → ℕ → Forest Given
  unlisted path depth = lists path (item (fault Listing path depth) nothing nothing)

  -- what is in a folder
  abbrev pub items_forest : Location → Items → Forest Given
  items_forest at end = nothing
  items_forest at (leaf x link rest) = at_depth at.depth (plain_entry (item_location at x) (leaf_kind link))
      nothing (items_forest at rest)
  items_forest at (folder x inner rest) =
      at_depth at.depth (plain_entry (item_location at x) Folder)
      (above_max at.depth (lists (join at.path x) (items_forest (one_deeper (item_location at x)) inner)))
      (items_forest at rest)
  items_forest at (sealed x rest) =
      at_depth at.depth (plain_entry (item_location at x) Folder)
      (above_max at.depth (unlisted (join at.path x) at.depth)) (items_forest at rest)
  items_forest at (misnamed x kind rest) = item (fault BadName at.path (at.depth - 1)) nothing
      (items_forest at rest)
  items_forest at (unread rest) = item (fault Listing at.path (at.depth - 1)) nothing (items_forest at rest)
  items_forest at (not_text rest) = item (fault NotText at.path (at.depth - 1)) nothing (items_forest at rest)

  -- what is below an entry
  abbrev pub below_forest : Location → Shown → Forest Given
  below_forest at (a_folder l) = above_max at.depth (lists at.path (items_forest (one_deeper at) l))
  below_forest at a_sealed = above_max at.depth (unlisted at.path at.depth)
  below_forest at x = nothing

  -- an entry, what is below it, and what comes after it
  abbrev pub entry_forest : Location → FileType → Shown → Forest Given → Forest Given
  entry_forest at kind s after = at_depth at.depth (plain_entry at kind) (below_forest at s) after

  -- the walk from a location on, and what comes after it
  abbrev pub plain_at : Location → Shown → Forest Given → Forest Given
  plain_at at (a_leaf link) after = entry_forest at (leaf_kind link) (a_leaf link) after
  plain_at at (a_folder l) after = entry_forest at Folder (a_folder l) after
  plain_at at a_sealed after = entry_forest at Folder a_sealed after
  plain_at at missing after = item (fault NotFound at.path at.depth) nothing after
  plain_at at failing after = item (fault Listing at.path at.depth) nothing after

  -- the walk from a start
  abbrev pub plain : List ℕ → Shown → Forest Given
  plain start s = plain_at (start_location start) s nothing
