-- What a tree in memory holds, and what it shows.
use Rattle.std.specs.Prelude.{◌≡◌, ℕ, true, false, cond, List, [], ◌∷◌, map, Option, Some, None, string_bytes}
use Rattle.std.specs.{Prelude.slice_get, Str.bytes_eq}
use Rattle.wax_directory.specs.declared.directory.FileType.{FileType}
use Rattle.wax_directory.specs.{declared.directory.FileType.TheVariants.Folder, declared.tree.Node.Node}
use Rattle.wax_directory.specs.declared.tree.TreeItem.{TreeItem}
use Rattle.wax_directory.specs.declared.tree.Node.TheOpen.{Node-F, TreeItem-F}
use Rattle.wax_directory.specs.declared.tree.Node.TheViews.{out-Node, out-TreeItem}
use Rattle.wax_directory.specs.declared.tree.Node.TheFolds.{fold-Node, fold-TreeItem}
use Rattle.wax_directory.specs.Shown.{Items, end, leaf, folder, sealed, misnamed, unread, not_text, Shown}
use Rattle.wax_directory.specs.Shown.{a_leaf, a_folder, a_sealed, missing, failing, Listed, named, no_item}
use Rattle.wax_directory.specs.{Shown.{no_name, leaf_kind}, Names.{is_plain, are_distinct}}
use Rattle.wax_directory.specs.declared.tree.Node.TheOpen as O

-- the file type of what is shown; what isn't a leaf counts as a folder
abbrev pub kind_of : Shown → FileType
kind_of (a_leaf link) = leaf_kind link
kind_of s = Folder

-- an entry before the rest; nothing is added if s is missing or failing
abbrev pub with_plain : List ℕ → Shown → Items → Items
with_plain name (a_leaf link) rest = leaf name link rest
with_plain name (a_folder l) rest = folder name l rest
with_plain name a_sealed rest = sealed name rest
with_plain name missing rest = rest
with_plain name failing rest = rest

abbrev pub with_entry : List ℕ → Shown → Items → Items
with_entry name s rest = cond (is_plain name) (with_plain name s rest) (misnamed name (kind_of s) rest)

abbrev pub all_items : List (Items → Items) → Items
all_items [] = end
all_items (f ∷ fs) = f (all_items fs)

abbrev pub item_step : TreeItem-F Shown (Items → Items) → Items → Items
item_step (O.Entry name s) = with_entry (string_bytes name) s
item_step O.Failed = unread
item_step O.NotText = not_text

abbrev pub node_step : Node-F Shown (Items → Items) → Shown
node_step O.File = a_leaf false
node_step O.Link = a_leaf true
node_step (O.Folder items) = a_folder (all_items items.items)
node_step O.Sealed = a_sealed

-- what a node shows
abbrev pub shown_of : Node → Shown
shown_of = fold-Node Shown (Items → Items) node_step item_step

abbrev pub item_shown : TreeItem → Items → Items
item_shown = fold-TreeItem Shown (Items → Items) node_step item_step

-- what the items of a folder show
abbrev pub items_shown : List TreeItem → Items
items_shown items = all_items (map item_shown items)

-- an item as it is listed, without what is below it
abbrev pub listed_layer : TreeItem-F Node TreeItem → Listed
listed_layer (O.Entry name node) = named (string_bytes name) (kind_of (shown_of node))
listed_layer O.Failed = no_item
listed_layer O.NotText = no_name

abbrev pub listed_item : TreeItem → Listed
listed_item i = listed_layer (out-TreeItem i)

-- the node of an entry
abbrev pub node_layer : TreeItem-F Node TreeItem → Option Node
node_layer (O.Entry name node) = Some node
node_layer i = None

abbrev pub entry_node : Option TreeItem → Option Node
entry_node None = None
entry_node (Some i) = node_layer (out-TreeItem i)

-- the items of a folder
abbrev pub held_layer : Node-F Node TreeItem → Option (List TreeItem)
held_layer (O.Folder items) = Some items.items
held_layer n = None

abbrev pub held : Node → Option (List TreeItem)
held n = held_layer (out-Node n)

abbrev pub held_of : Option Node → Option (List TreeItem)
held_of None = None
held_of (Some n) = held n

abbrev pub child_of : Option (List TreeItem) → ℕ → Option Node
child_of None place = None
child_of (Some items) place = entry_node (slice_get items place)

-- the node of the item at this place in a folder
abbrev pub child_at : ℕ → Node → Option Node
child_at place n = child_of (held n) place

abbrev pub and_below : (Node → Option Node) → Option Node → Option Node
and_below f None = None
and_below f (Some n) = f n

-- the node below n that the places lead to, one place for each folder on the way
abbrev pub node_at : List ℕ → Node → Option Node
node_at [] n = Some n
node_at (place ∷ places) n = and_below (node_at places) (child_at place n)

-- the names of a folder's entries
abbrev pub name_before : TreeItem-F Node TreeItem → List (List ℕ) → List (List ℕ)
name_before (O.Entry name node) names = string_bytes name ∷ names
name_before i names = names

abbrev pub names_of : List TreeItem → List (List ℕ)
names_of [] = []
names_of (i ∷ items) = name_before (out-TreeItem i) (names_of items)

-- no folder in this tree holds a name twice
abbrev pub HasDistinctNames : Node → Type 0
HasDistinctNames n = (places : List ℕ) (items : List TreeItem) → held_of (node_at places n) ≡ Some items
    → are_distinct (names_of items) ≡ true

-- some folder in this tree holds a name twice
abbrev pub HasDuplicateName : Node → Type 0
HasDuplicateName n = (places : List ℕ) × (items : List TreeItem) × (held_of (node_at places n) ≡ Some items) ×
    (are_distinct (names_of items) ≡ false)

-- where the names of a path lead
pub data Reached : Type 0 where
  to_node : Node → Reached
  to_nothing : Reached
  to_sealed : Reached  -- below a folder that can't be listed

abbrev pub named_before : List ℕ → TreeItem-F Node TreeItem → Reached → Reached
named_before x (O.Entry name node) later = cond (bytes_eq (string_bytes name) x) (to_node node) later
named_before x i later = later

-- the first entry with this name
abbrev pub named_in : List ℕ → List TreeItem → Reached
named_in x [] = to_nothing
named_in x (i ∷ items) = named_before x (out-TreeItem i) (named_in x items)

abbrev pub below_layer : List ℕ → Node-F Node TreeItem → Reached
below_layer x (O.Folder items) = named_in x items.items
below_layer x O.Sealed = to_sealed
below_layer x n = to_nothing

abbrev pub onward : (Node → Reached) → Reached → Reached
onward f (to_node n) = f n
onward f to_nothing = to_nothing
onward f to_sealed = to_sealed

-- follows the names from a node: nothing is below a file or a link, and a folder that can't be listed hides
-- what is in it
abbrev pub reached : List (List ℕ) → Node → Reached
reached [] n = to_node n
reached (x ∷ names) n = onward (reached names) (below_layer x (out-Node n))

abbrev pub shown_reached : Reached → Shown
shown_reached (to_node n) = shown_of n
shown_reached to_nothing = missing
shown_reached to_sealed = failing
