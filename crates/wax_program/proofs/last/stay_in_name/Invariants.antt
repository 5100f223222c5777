use Rattle.std.proofs.Common.{◌≤◌, ◌+◌, length, max}
use Rattle.wax_program.specs.inner.Names.{StayInName}
use Rattle.wax_program.proofs.last.stay_in_name.Given as goal

abbrev pub invariant-loop-at : goal.invariant-loop-at
invariant-loop-at l = record {
  stay : StayInName l.program.0 l.at;
  above : l.meter + 2 ≤ l.fn.meter + l.at;
  few : l.at ≤ max 2 (length l.program.0);
  steady : l.fn.meter ≤ l.meter;
}
