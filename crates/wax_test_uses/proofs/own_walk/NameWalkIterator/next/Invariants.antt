use Rattle.std.proofs.Common.{length, ◌≤◌}
use Rattle.wax_test_uses.proofs.own_walk.NameWalkIterator.next.Given as goal

abbrev pub invariant-loop-first : goal.invariant-loop-first
invariant-loop-first l = length l.self.rest.now ≤ length l.fn.self.rest.now

abbrev pub decreases-loop-first : goal.decreases-loop-first
decreases-loop-first l = length l.self.rest.now
