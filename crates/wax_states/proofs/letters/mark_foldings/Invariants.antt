use Rattle.std.proofs.Common.{◌<◌, length}
use Rattle.wax_states.specs.inner.Marks.{KeepsMarked, MarksPairs}
use Rattle.wax_states.proofs.letters.mark_foldings.Given as goal

abbrev pub invariant-loop-c : goal.invariant-loop-c
invariant-loop-c l = record {
  room : 131072 < length l.marks;
  kept : KeepsMarked l.fn.marks l.marks;
  pairs : MarksPairs l.c-items l.c-index l.fn.marks l.marks;
}
