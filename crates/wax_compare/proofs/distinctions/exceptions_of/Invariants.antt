use Rattle.wax_compare.specs.inner.Distinctions.{AreExceptionsUpTo}
use Rattle.wax_compare.proofs.distinctions.exceptions_of.Given as goal

abbrev pub invariant-loop-number : goal.invariant-loop-number
invariant-loop-number l = AreExceptionsUpTo l.letters l.instruction l.takes_others l.numbers.items l.number
