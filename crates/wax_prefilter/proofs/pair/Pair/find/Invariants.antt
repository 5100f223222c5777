use Rattle.std.proofs.Common.{◌-◌, ◌≤◌, length}
use Rattle.wax_prefilter.specs.inner.Pairs.{NoPairBefore, lowered}
use Rattle.wax_prefilter.proofs.pair.Pair.find.Given as goal

-- the pair doesn't stand before the position that was reached
abbrev pub invariant-loop-at : goal.invariant-loop-at
invariant-loop-at l = (l.at ≤ length l.lasts) × NoPairBefore l.self (lowered l.in_any_case l.bytes) l.at

abbrev pub decreases-loop-at : goal.decreases-loop-at
decreases-loop-at l = length l.lasts - l.at
