use Rattle.std.proofs.Common.{◌≡◌, ◌≤◌, ◌-◌, length, take, drop}
use Rattle.std.specs.List.{AllZip}
use Rattle.wax_c.specs.{Outcomes.IsGlobOf, Sets.cut_each}
use Rattle.wax_c.proofs.sets.globs_of.Given as goal

-- a glob was built of each pattern before this one, and the others are in the rest
abbrev pub invariant-loop-rest : goal.invariant-loop-rest
invariant-loop-rest l = record {
  each : AllZip IsGlobOf (take (length l.globs.items) (cut_each l.fn.patterns l.lengths)) l.globs.items;
  others : drop (length l.globs.items) (cut_each l.fn.patterns l.lengths)
      ≡ cut_each l.rest (drop (length l.globs.items) l.lengths);
  within : length l.globs.items ≤ length l.lengths;
}

abbrev pub decreases-loop-rest : goal.decreases-loop-rest
decreases-loop-rest l = length l.lengths - length l.globs.items
