-- What a look-up in a tree returns.
use Rattle.std.specs.Prelude.{◌≡◌, ℕ, Bool, false, List, Option, Some, None, Result, Ok, Err, Vec}
use Rattle.std.specs.{Prelude.{string_bytes, slice_get, ⊤}, Str.bytes_eq}
use Rattle.wax_directory.specs.declared.directory.DirectoryFault.{DirectoryFault}
use Rattle.wax_directory.specs.declared.directory.DirectoryFault.TheVariants.{Failed, Memory}
use Rattle.wax_directory.specs.{declared.tree.Node.Node, declared.tree.TreeItem.TreeItem}
use Rattle.wax_directory.specs.declared.tree.Node.TheOpen.{TreeItem-F}
use Rattle.wax_directory.specs.declared.tree.Node.TheViews.{out-TreeItem}
use Rattle.wax_directory.specs.Nodes.{node_at, child_at, entry_node, Reached, to_node, to_nothing, to_sealed}
use Rattle.wax_directory.specs.declared.tree.Node.TheOpen as O

abbrev pub layer_has_name : List ℕ → TreeItem-F Node TreeItem → Bool
layer_has_name x (O.Entry name node) = bytes_eq (string_bytes name) x
layer_has_name x i = false

abbrev pub has_name : List ℕ → TreeItem → Bool
has_name x i = layer_has_name x (out-TreeItem i)

abbrev pub to_reached : Option Node → Reached
to_reached (Some n) = to_node n
to_reached None = to_nothing

-- what a place among items leads to
abbrev pub reached_place : List TreeItem → Option ℕ → Reached
reached_place items (Some place) = to_reached (entry_node (slice_get items place))
reached_place items None = to_nothing

-- what one step of a look-up leads to, by its result
abbrev pub reached_at : Node → Result (Option ℕ) DirectoryFault → Reached
reached_at n (Ok (Some place)) = to_reached (child_at place n)
reached_at n (Ok None) = to_nothing
reached_at n (Err e) = to_sealed

-- the result of a look-up says where r is: at these places below n, nowhere, or below a folder that can't be
-- listed; nothing is claimed if allocation fails
abbrev pub Locates : {Z : Type 0} → Reached → Node → Result (Option (Vec ℕ Z)) DirectoryFault → Type 0
Locates r n (Ok (Some places)) = (m : Node) × (node_at places.items n ≡ Some m) × (r ≡ to_node m)
Locates r n (Ok None) = r ≡ to_nothing
Locates r n (Err Failed) = r ≡ to_sealed
Locates r n (Err Memory) = ⊤
