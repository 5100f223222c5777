use Rattle.std.proofs.Common.{ℕ, ◌<◌, slice_index}
use Rattle.wax_compare.specs.Cuts.{StandsFor}
use Rattle.wax_compare.proofs.merged.has_stand_in.Given as goal

abbrev pub invariant-loop-index : goal.invariant-loop-index
invariant-loop-index l =
    (k : ℕ) → k < l.index → StandsFor l.first.0 l.second.0 (slice_index l.kept k) l.letter → ⊥
