use Rattle.std.proofs.Common.{◌≤◌, ◌+◌, length}
use Rattle.wax_c.proofs.NotText.{AreMissing}
use Rattle.wax_c.proofs.not_text.count_not_text.Given as goal

abbrev pub invariant-loop-rest : goal.invariant-loop-rest
invariant-loop-rest l = record {
  before : AreMissing l.fn.input l.rest l.count;
  within : l.count + length l.rest ≤ length l.fn.input;
}

abbrev pub decreases-loop-rest : goal.decreases-loop-rest
decreases-loop-rest l = length l.rest
