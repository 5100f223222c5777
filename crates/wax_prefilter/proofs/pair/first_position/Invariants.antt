use Rattle.std.proofs.Common.{◌≡◌, ◌<◌, ℕ, drop, get_or, length}
use lib.Lanes.{chunk}
use Rattle.wax_prefilter.specs.{declared.pair.Pair.Pair, inner.Pairs.{ZeroWhere, lowered}}
use Rattle.wax_prefilter.proofs.pair.first_position.Given as goal

-- a lane is 0 if one of the pairs so far stands there
abbrev pub invariant-loop-pair : goal.invariant-loop-pair
invariant-loop-pair l = (length l.least ≡ 32)
    × ((k : ℕ) (pair : Pair) → k < l.pair-index → get_or l.pairs k pair ≡ pair
    → ZeroWhere pair (lowered l.in_any_case (chunk 0 32 l.bytes))
    (lowered l.in_any_case (chunk 0 32 (drop pair.distance l.bytes))) l.least)
