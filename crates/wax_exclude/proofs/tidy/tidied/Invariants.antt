use Rattle.std.proofs.Common.{length}
use Rattle.wax_exclude.proofs.TidyUp.{IsLeft}
use Rattle.wax_exclude.proofs.tidy.tidied.Given as goal

abbrev pub invariant-loop-removed : goal.invariant-loop-removed
invariant-loop-removed l = IsLeft l.lines l.removed.items l.indexes.items

abbrev pub decreases-loop-removed : goal.decreases-loop-removed
decreases-loop-removed l = length l.indexes.items
