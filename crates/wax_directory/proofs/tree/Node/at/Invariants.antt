use Rattle.std.proofs.Common.{◌≡◌, drop}
use Rattle.wax_directory.specs.Nodes.{node_at}
use Rattle.wax_directory.proofs.tree.Node.at.Given as goal

abbrev pub invariant-loop-place : goal.invariant-loop-place
invariant-loop-place l = node_at (drop l.place-index l.places) l.node ≡ node_at l.places l.self
