use Rattle.std.proofs.Common.{◌≡◌, ◌≤◌, length, take}
use Rattle.wax_token.specs.{Cost.branches_cost, Words.trees}
use Rattle.wax_capture.specs.Pieces.{size_of}
use Rattle.wax_capture.proofs.Branches.{WaysTo}
use Rattle.wax_capture.proofs.ways.branch_ways.Given as goal

abbrev pub invariant-loop-branch : goal.invariant-loop-branch
invariant-loop-branch g l = record {
  count : length l.forms.items ≡ l.branch-index;
  ways : WaysTo l.branches l.sides.before l.sides.after l.forms.items l.branch-index;
  few : size_of l.forms.items ≤ branches_cost (trees (take l.branch-index l.branches));
}
