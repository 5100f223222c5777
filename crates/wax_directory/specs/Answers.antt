-- What the calls of a directory return.
use Rattle.std.specs.Prelude.{◌≡◌, ℕ, map, take, Option, Some, None, Result, Ok, Err, Vec, string_bytes, ⊤}
use Rattle.std.specs.Option.{option_map}
use Rattle.wax_query.specs.declared.diagnostics.NoMemory.{NoMemory}
use Rattle.wax_directory.specs.{declared.directory.FileType.FileType, declared.directory.ListItem.ListItem}
use Rattle.wax_directory.specs.declared.directory.DirectoryFault.{DirectoryFault}
use Rattle.wax_directory.specs.declared.directory.DirectoryFault.TheVariants.{Failed, Memory}
use Rattle.wax_directory.specs.Shown.{Items, Shown, a_leaf, a_folder, a_sealed, missing, failing, Listed}
use Rattle.wax_directory.specs.Shown.{named, no_item, no_name, leaf_kind, first_item, rest_of, listing}
use Rattle.wax_directory.specs.declared.directory.FileType.TheVariants as F
use Rattle.wax_directory.specs.declared.directory.ListItem.TheVariants as I

abbrev pub listed_of : ListItem → Listed
listed_of (I.Name x kind) = named (string_bytes x) kind
listed_of I.Failed = no_item
listed_of I.NotText = no_name

-- the result of `kind` at a path where s is shown; nothing is claimed if allocation fails
abbrev pub KindIs : Shown → Result (Option FileType) DirectoryFault → Type 0
KindIs s (Err Memory) = ⊤
KindIs (a_leaf link) r = r ≡ Ok (Some (leaf_kind link))
KindIs (a_folder l) r = r ≡ Ok (Some F.Folder)
KindIs a_sealed r = r ≡ Ok (Some F.Folder)
KindIs missing r = r ≡ Ok None
KindIs failing r = r ≡ Err Failed

-- the result of `open` at a path where s is shown: a cursor that has the items of a folder, and `Failed` for
-- anything else; nothing is claimed if allocation fails
abbrev pub Opens : {C : Type 0} → (C → Items → Type 0) → Shown → Result C DirectoryFault → Type 0
Opens holds s (Err Memory) = ⊤
Opens holds (a_folder l) (Ok cursor) = holds cursor l
Opens holds (a_folder l) (Err Failed) = ⊥
Opens holds s r = r ≡ Err Failed

-- the result of `next` for a cursor that has the items l: the first of them, if any, and then the cursor has
-- the others; if allocation fails, it still has them all
abbrev pub NextIs : {C : Type 0} → (C → Items → Type 0) → Items → Result (Option ListItem) NoMemory → C
    → Type 0
NextIs holds l (Ok answer) cursor = (option_map listed_of answer ≡ first_item l) × holds cursor (rest_of l)
NextIs holds l (Err e) cursor = holds cursor l

-- the result of listing at most `most` items at a path where s is shown: the first items of a folder, and
-- `Failed` for anything else; nothing is claimed if allocation fails
abbrev pub ListIs : {Z : Type 0} → ℕ → Shown → Result (Vec ListItem Z) DirectoryFault → Type 0
ListIs most s (Err Memory) = ⊤
ListIs most (a_folder l) (Ok answer) = map listed_of answer.items ≡ take most (listing l)
ListIs most (a_folder l) (Err Failed) = ⊥
ListIs most s r = r ≡ Err Failed
