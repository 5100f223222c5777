use Rattle.std.proofs.Common.{◌≤◌, take}
use Rattle.wax_capture.specs.Pieces.{size_of}
use Rattle.wax_capture.proofs.size.size_of.Given as goal

abbrev pub invariant-loop-index : goal.invariant-loop-index
invariant-loop-index l = l.size ≤ size_of (take l.index l.forms)
