use Rattle.std.proofs.Common.{◌≡◌, ◌≤◌, length}
use Rattle.wax_program.specs.inner.Unmarked.{ReplaceEach}
use Rattle.wax_program.proofs.unmarked.without_marks.Given as goal

-- the instructions before this one were copied
abbrev pub invariant-loop-at : goal.invariant-loop-at
invariant-loop-at l = record {
  within : l.at ≤ length l.program.0;
  count : length l.instructions.items ≡ l.at;
  each : ReplaceEach l.program.0 l.instructions.items;
}
