use Rattle.std.proofs.Common.{◌≡◌, drop}
use Rattle.wax_directory.specs.Nodes.{named_in}
use Rattle.wax_directory.proofs.tree.place_of.Given as goal

abbrev pub invariant-loop-place : goal.invariant-loop-place
invariant-loop-place l = named_in l.name (drop l.place l.items) ≡ named_in l.name l.items
