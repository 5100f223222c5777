use Rattle.std.proofs.Common.{◌≡◌, ℕ, ◌<◌, Some, slice_get}
use Rattle.wax_directory.specs.{declared.tree.Node.Node, Nodes.{entry_node, HasDistinctNames}}
use Rattle.wax_directory.proofs.tree.Node.+has_distinct_names.Given as goal

abbrev pub invariant-loop-item : goal.invariant-loop-item
invariant-loop-item l = (place : ℕ) (n : Node) → place < l.item-index
    → entry_node (slice_get l.item-items place) ≡ Some n → HasDistinctNames n
