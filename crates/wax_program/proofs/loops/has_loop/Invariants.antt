use Rattle.std.proofs.Common.{◌≤◌, ◌+◌}
use Rattle.wax_program.proofs.loops.has_loop.Given as goal

abbrev pub invariant-loop-place : goal.invariant-loop-place
invariant-loop-place l = record {
  above : l.meter ≤ l.fn.meter + l.place-index;
  steady : l.fn.meter ≤ l.meter;
}
