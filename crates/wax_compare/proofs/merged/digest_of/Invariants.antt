use Rattle.wax_compare.specs.inner.Merging.{IsDigestBefore}
use Rattle.wax_compare.proofs.merged.digest_of.Given as goal

abbrev pub invariant-loop-at : goal.invariant-loop-at
invariant-loop-at l = IsDigestBefore l.program.0 l.c l.seed l.at l.digest
