use Rattle.std.proofs.Common.{◌+◌, ◌≤◌}
use Rattle.wax_program.specs.inner.Jumps.{AreJumpsBelow}
use Rattle.wax_program.proofs.jumps.Jumps.new.Given as goal

abbrev pub invariant-loop-at : goal.invariant-loop-at
invariant-loop-at l = record {
  jumps : AreJumpsBelow l.program.0 l.at l.last.items l.before.items;
  above : l.meter ≤ l.fn.meter + l.at;
  steady : l.fn.meter ≤ l.meter;
}
