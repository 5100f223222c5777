use Rattle.std.proofs.Common.{take}
use Rattle.wax_directory.proofs.Copying.{SameItems}
use Rattle.wax_directory.proofs.tree.Node.+copied.Given as goal

abbrev pub invariant-loop-item : goal.invariant-loop-item
invariant-loop-item l = SameItems (take l.item-index l.item-items) l.copies.items
