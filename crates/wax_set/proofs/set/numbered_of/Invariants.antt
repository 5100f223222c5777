use Rattle.std.proofs.Common.{◌≡◌, ◌+◌, take}
use Rattle.wax_match.specs.Numbered.{numbered_length}
use Rattle.wax_token.specs.{Cost.branches_cost, Words.trees}
use Rattle.wax_set.proofs.Numbers.{AreIndexed}
use Rattle.wax_set.proofs.set.numbered_of.Given as goal

abbrev pub invariant-loop-number : goal.invariant-loop-number
invariant-loop-number l = record {
  indexed : AreIndexed l.patterns.items (take l.number l.branches);
  length : numbered_length l.patterns.items ≡ branches_cost (trees (take l.number l.branches)) + 1;
}
