-- What an item of a folder becomes in a walk.
use Rattle.std.specs.Prelude.{◌≡◌, ◌⊎◌, ℕ, List, true, false, string_bytes}
use Rattle.wax_directory.specs.{declared.directory.FileType.FileType, declared.directory.ListItem.ListItem}
use Rattle.wax_directory.specs.declared.directory.ListItem.TheVariants.{Name, Failed, NotText}
use Rattle.wax_directory.specs.{Names.is_plain, Shown.join}
use Rattle.wax_walk.specs.{Entries.facts_of, declared.error.FaultKind.FaultKind}
use Rattle.wax_tree.specs.declared.steps.FoundItem.{FoundItem}
use Rattle.wax_tree.specs.{declared.steps.FoundItem.TheVariants.{Entry, Fault}, Plain.Location}
use Rattle.wax_walk.specs.declared.error.FaultKind.TheVariants as K

-- the entry of this name and kind in the folder at this location
abbrev pub IsEntry : Location → List ℕ → FileType → FoundItem → Type 0
IsEntry at name kind (Entry e) = facts_of e ≡ record {
  path = join at.path name;
  root = at.root;
  candidate = join at.candidate name;
  depth = at.depth;
  kind = kind;
}
IsEntry at name kind (Fault k path) = ⊥

-- an error of this kind in the folder at this location
abbrev pub IsFault : Location → FaultKind → FoundItem → Type 0
IsFault at kind (Entry e) = ⊥
IsFault at kind (Fault k path) = (k ≡ kind) × (string_bytes path ≡ at.path)

-- what an item of the folder at this location becomes: an entry if its name is plain, else an error
abbrev pub IsFound : Location → ListItem → FoundItem → Type 0
IsFound at (Name name kind) found =
    ((is_plain (string_bytes name) ≡ true) × IsEntry at (string_bytes name) kind found)
    ⊎ ((is_plain (string_bytes name) ≡ false) × IsFault at K.BadName found)
IsFound at Failed found = IsFault at K.Listing found
IsFound at NotText found = IsFault at K.NotText found
