use Rattle.std.proofs.Common.{◌≡◌, length}
use Rattle.wax_compare.specs.inner.Distinctions.{AreExceptionsOf}
use Rattle.wax_compare.proofs.distinctions.Distinctions.new.Given as goal

abbrev pub invariant-loop-at : goal.invariant-loop-at
invariant-loop-at l = (length l.exceptions.items ≡ l.at)
    × AreExceptionsOf l.program.0 l.letters l.exceptions.items
