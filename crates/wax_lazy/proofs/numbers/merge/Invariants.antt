use Rattle.std.proofs.Common.{drop, length, ◌+◌, ◌-◌, ◌≤◌}
use Rattle.wax_lazy.proofs.Merging.{AreMerged}
use Rattle.wax_lazy.proofs.numbers.merge.Given as goal

abbrev pub invariant-loop-i : goal.invariant-loop-i
invariant-loop-i l = record {
  i : l.i ≤ length l.one;
  j : l.j ≤ length l.other;
  are : AreMerged l.one l.other l.merged.items (drop l.i l.one) (drop l.j l.other);
}

abbrev pub decreases-loop-i : goal.decreases-loop-i
decreases-loop-i l = (length l.one - l.i) + (length l.other - l.j)
