-- The first item of a folder, and what it adds to a walk.
use Rattle.std.specs.Prelude.{ℕ, ◌-◌}
use Rattle.wax_directory.specs.declared.directory.FileType.TheVariants.{Folder}
use Rattle.wax_directory.specs.Shown.{Items, end, leaf, folder, sealed, misnamed, unread, not_text, a_leaf}
use Rattle.wax_directory.specs.Shown.{a_folder, a_sealed, leaf_kind}
use Rattle.wax_walk.specs.declared.error.FaultKind.TheVariants.{Listing, BadName, NotText}
use Rattle.wax_walk.specs.{Forest.{Forest, nothing, item}, Given.{Given, fault}}
use Rattle.wax_tree.specs.Plain.{WalkScope, Location, item_location, count, entry_forest}

-- how many items are below the first of these
abbrev pub own_count : Items → ℕ
own_count (folder x inner rest) = count inner
own_count l = 0

-- the first item of a folder, if any, and what comes after it
abbrev pub first_item_forest : WalkScope → Location → Items → Forest Given → Forest Given
first_item_forest scope at end after = after
first_item_forest scope at (leaf x link rest) after = entry_forest scope (item_location at x) (leaf_kind link)
    (a_leaf link) after
first_item_forest scope at (folder x inner rest) after = entry_forest scope (item_location at x) Folder
    (a_folder inner) after
first_item_forest scope at (sealed x rest) after = entry_forest scope (item_location at x) Folder a_sealed
    after
first_item_forest scope at (misnamed x kind rest) after = item (fault BadName at.path (at.depth - 1)) nothing
    after
first_item_forest scope at (unread rest) after = item (fault Listing at.path (at.depth - 1)) nothing after
first_item_forest scope at (not_text rest) after = item (fault NotText at.path (at.depth - 1)) nothing after
