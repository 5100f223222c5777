use Rattle.wax_compare.specs.inner.Merging.{AreKeptLetters, AreMerged}
use Rattle.wax_compare.proofs.merged.merge.Given as goal

abbrev pub invariant-loop-letter : goal.invariant-loop-letter
invariant-loop-letter l = record {
  merged : AreMerged l.first.0 l.second.0 l.letters l.letter-index l.kept.items;
  kept : AreKeptLetters l.first.0 l.second.0 l.kept.items l.digests.items;
}
