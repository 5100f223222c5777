use Rattle.std.proofs.Common.{◌≤◌, ◌+◌}
use Rattle.wax_program.proofs.Lists.{PartedBefore}
use Rattle.wax_program.proofs.loops.part_loops.Given as goal

abbrev pub invariant-loop-place : goal.invariant-loop-place
invariant-loop-place l = record {
  parted : PartedBefore l.places l.loops.items l.others.items l.place-index;
  above : l.meter ≤ l.fn.meter + l.place-index;
  steady : l.fn.meter ≤ l.meter;
}
