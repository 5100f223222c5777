use Rattle.wax_compare.specs.inner.Merging.{AgreeBefore}
use Rattle.wax_compare.proofs.merged.are_alike.Given as goal

abbrev pub invariant-loop-at : goal.invariant-loop-at
invariant-loop-at l = AgreeBefore l.program.0 l.at l.c l.d
