use Rattle.std.proofs.Common.{◌≡◌, ◌≤◌, ◌-◌, length, take, drop}
use Rattle.std.specs.List.{AllZip}
use Rattle.wax_c.specs.{Sets.cut_each, inner.Spelled.SpellsOnly}
use Rattle.wax_c.proofs.sets.read_each.Given as goal

-- each pattern before this one was read, and the others are in the rest
abbrev pub invariant-loop-rest : goal.invariant-loop-rest
invariant-loop-rest l = record {
  each : AllZip SpellsOnly (take (length l.expressions.items) (cut_each l.fn.patterns l.lengths))
      l.expressions.items;
  others : drop (length l.expressions.items) (cut_each l.fn.patterns l.lengths)
      ≡ cut_each l.rest (drop (length l.expressions.items) l.lengths);
  within : length l.expressions.items ≤ length l.lengths;
}

abbrev pub decreases-loop-rest : goal.decreases-loop-rest
decreases-loop-rest l = length l.lengths - length l.expressions.items
