use Rattle.std.proofs.Common.{◌+◌, ◌<◌, ◌≤◌, length}
use Rattle.wax_program.proofs.Reading.{AreFirst}
use Rattle.wax_program.proofs.onward.others_of.Given as goal

abbrev pub invariant-loop-at : goal.invariant-loop-at
invariant-loop-at l = record {
  above : l.meter ≤ l.fn.meter + l.at;
  steady : l.fn.meter ≤ l.meter;
  room : length l.program.0 < length l.others;
  first : AreFirst l.program.0 l.others l.at;
}
