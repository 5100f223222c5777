use Rattle.std.proofs.Common.{◌≡◌, ◌≤◌, drop, length, true}
use Rattle.wax_exclude.specs.inner.Listed.{none_reincludes}
use Rattle.wax_exclude.proofs.numbers.settled_from.Given as goal

abbrev pub invariant-loop-settled : goal.invariant-loop-settled
invariant-loop-settled l = (l.settled ≤ length l.lines) × (none_reincludes (drop l.settled l.lines) ≡ true)

abbrev pub decreases-loop-settled : goal.decreases-loop-settled
decreases-loop-settled l = l.settled
