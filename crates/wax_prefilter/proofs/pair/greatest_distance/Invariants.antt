use Rattle.std.proofs.Common.{◌≡◌, ◌<◌, ◌≤◌, ℕ, get_or}
use Rattle.wax_prefilter.specs.declared.pair.Pair.{Pair}
use Rattle.wax_prefilter.proofs.pair.greatest_distance.Given as goal

-- the distance of no pair so far is greater
abbrev pub invariant-loop-pair : goal.invariant-loop-pair
invariant-loop-pair l = (k : ℕ) (pair : Pair) → k < l.pair-index → get_or l.pairs k pair ≡ pair
    → pair.distance ≤ l.greatest
