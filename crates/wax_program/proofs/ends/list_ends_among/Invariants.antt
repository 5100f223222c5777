use Rattle.std.proofs.Common.{◌≤◌, ◌+◌}
use Rattle.wax_program.proofs.Marks.{AreEndsBefore}
use Rattle.wax_program.proofs.ends.list_ends_among.Given as goal

abbrev pub invariant-loop-place : goal.invariant-loop-place
invariant-loop-place l = record {
  ends : AreEndsBefore l.program.0 l.places l.place-index l.numbers.items;
  above : l.meter ≤ l.fn.meter + l.place-index;
  steady : l.fn.meter ≤ l.meter;
}
