use Rattle.std.proofs.Common.{◌≤◌, take}
use Rattle.wax_capture.specs.inner.Splits.{all_sizes}
use Rattle.wax_capture.proofs.size.size_of_all.Given as goal

abbrev pub invariant-loop-index : goal.invariant-loop-index
invariant-loop-index l = l.size ≤ all_sizes (take l.index l.pieces)
