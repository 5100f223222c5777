use Rattle.wax_states.specs.inner.Listed.{AreRead}
use Rattle.wax_states.proofs.listed_sets.first_unread.Given as goal

abbrev pub invariant-loop-index : goal.invariant-loop-index
invariant-loop-index l = AreRead l.places l.from l.index l.size l.read
