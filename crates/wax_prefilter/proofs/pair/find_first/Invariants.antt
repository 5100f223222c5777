use Rattle.std.proofs.Common.{◌-◌, ◌≤◌, length}
use Rattle.wax_prefilter.specs.inner.Pairs.{NoPairsBefore, lowered}
use Rattle.wax_prefilter.proofs.pair.find_first.Given as goal

-- none of the pairs stands before the position that was reached
abbrev pub invariant-loop-at : goal.invariant-loop-at
invariant-loop-at l = (l.at ≤ length l.lasts) × NoPairsBefore l.pairs (lowered l.in_any_case l.bytes) l.at

abbrev pub decreases-loop-at : goal.decreases-loop-at
decreases-loop-at l = length l.lasts - l.at
