use Rattle.std.proofs.Common.{ℕ, ◌<◌, IsTrue, slice_index}
use Rattle.wax_compare.specs.inner.Searching.{IsSameSearch, IsUndistinguished, readings}
use Rattle.wax_compare.specs.inner.Visiting.{AreKnown, Grow, IsHeld, IsVisited}
use Rattle.wax_compare.proofs.finding.follow.Given as goal

abbrev pub invariant-loop-number : goal.invariant-loop-number
invariant-loop-number l = record {
  held : IsHeld l.first.0 l.second.0 l.search l.pairs.reached.items l.at;
  known : AreKnown l.pairs.reached.items l.pairs.known;
  grows : Grow l.fn.pairs.reached.items l.pairs.reached.items;
  same : IsSameSearch l.fn.search l.search;
  visited : (k : ℕ) → k < l.number → IsVisited (readings l.first.0 l.second.0 l.search) l.pairs.reached.items
      l.at (slice_index l.search.letters.items k);
  alike : IsTrue l.has_alike → (k : ℕ) × (k < l.number) × IsUndistinguished l.search l.pair k;
}
