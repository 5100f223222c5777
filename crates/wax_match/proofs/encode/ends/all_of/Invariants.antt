use Rattle.std.proofs.Common.{◌≡◌, ◌≤◌, ◌+◌, length, sum_by, take}
use Rattle.wax_match.proofs.Joining.{AreLeft}
use Rattle.wax_match.specs.{Numbered.numbered_length, inner.LeftCost.left_cost}
use Rattle.wax_match.proofs.encode.ends.all_of.Given as goal

abbrev pub invariant-loop-numbered : goal.invariant-loop-numbered
invariant-loop-numbered l = record {
  len : length l.lefts.items ≡ l.numbered-index;
  fits : sum_by left_cost l.lefts.items + 1 ≤ numbered_length (take l.numbered-index l.patterns);
  left : AreLeft l.lefts.items l.patterns l.numbered-index;
}
