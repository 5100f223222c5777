use Rattle.wax_compare.specs.{inner.Searching.IsSameSearch, inner.Visiting.{AreKnown, IsHeld}}
use Rattle.wax_compare.proofs.finding.run.Given as goal

abbrev pub invariant-loop-at : goal.invariant-loop-at
invariant-loop-at l = record {
  held : IsHeld l.first.0 l.second.0 l.search l.pairs.reached.items l.at;
  known : AreKnown l.pairs.reached.items l.pairs.known;
  same : IsSameSearch l.fn.search l.search;
}
