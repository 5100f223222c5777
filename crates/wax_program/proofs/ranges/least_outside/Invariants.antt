use Rattle.wax_program.proofs.Sweeping.{IsSwept}
use Rattle.wax_program.proofs.ranges.least_outside.Given as goal

abbrev pub invariant-loop-first : goal.invariant-loop-first
invariant-loop-first l = IsSwept l.ranges l.first-index l.least
