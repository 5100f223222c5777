use Rattle.std.proofs.Common.{◌≡◌, ◌+◌, ◌-◌, ◌≤◌, length, drop}
use Rattle.wax_lengths.specs.inner.Names.{name_len}
use Rattle.wax_lengths.proofs.lengths.name_len.Given as goal

abbrev pub invariant-loop-end : goal.invariant-loop-end
invariant-loop-end l = record {
  begun : l.at ≤ l.end;
  within : l.end ≤ length l.text;
  len : name_len (drop l.at l.text) + l.at ≡ name_len (drop l.end l.text) + l.end;
}

abbrev pub decreases-loop-end : goal.decreases-loop-end
decreases-loop-end l = length l.text - l.end
