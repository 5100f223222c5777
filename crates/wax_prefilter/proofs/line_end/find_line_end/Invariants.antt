use Rattle.std.proofs.Common.{◌+◌, ◌-◌, ◌≤◌, length}
use Rattle.wax_prefilter.specs.inner.Ends.{NoneEndsBefore}
use Rattle.wax_prefilter.proofs.line_end.find_line_end.Given as goal

-- no line feed so far comes after one of the needles: none after which the pair isn't found either
abbrev pub invariant-loop-at : goal.invariant-loop-at
invariant-loop-at l = (l.at ≤ length l.bytes) × NoneEndsBefore l.needles l.bytes (l.at + l.end.back)

abbrev pub decreases-loop-at : goal.decreases-loop-at
decreases-loop-at l = length l.bytes - l.at
