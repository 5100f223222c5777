use Rattle.std.proofs.Common.{◌-◌, ◌≤◌, drop, take}
use Rattle.wax_lengths.specs.Forms.{EachPasses}
use Rattle.wax_lengths.proofs.lengths.run_len.Given as goal

abbrev pub invariant-loop-n : goal.invariant-loop-n
invariant-loop-n l = record {
  within : l.n ≤ l.most;
  passes : EachPasses l.test (take l.n (drop l.at l.text));
}

abbrev pub decreases-loop-n : goal.decreases-loop-n
decreases-loop-n l = l.most - l.n
