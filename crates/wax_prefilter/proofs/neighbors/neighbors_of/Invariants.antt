use Rattle.std.proofs.Common.{◌≡◌, length}
use Rattle.wax_prefilter.proofs.NeighborNumbers.{AreNeighborsTo}
use Rattle.wax_prefilter.proofs.neighbors.neighbors_of.Given as goal

abbrev pub invariant-loop-position : goal.invariant-loop-position
invariant-loop-position l = (length l.neighbors ≡ 1024) × AreNeighborsTo l.position l.text l.neighbors
