use Rattle.std.proofs.Common.{◌≤◌, ◌<◌, ◌+◌, length}
use Rattle.wax_states.specs.inner.Marks.{MarksBefore}
use Rattle.wax_states.proofs.letters.mark_tests.Given as goal

abbrev pub invariant-loop-at : goal.invariant-loop-at
invariant-loop-at l = record {
  room : 131072 < length l.marks;
  tests : MarksBefore l.program.0 l.at l.marks;
  above : l.meter ≤ l.fn.meter + l.at;
  steady : l.fn.meter ≤ l.meter;
}
