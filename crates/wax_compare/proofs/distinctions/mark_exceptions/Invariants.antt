use Rattle.std.proofs.Common.{◌≡◌, length}
use Rattle.wax_compare.specs.inner.Distinctions.{KeepsMarks}
use Rattle.wax_compare.proofs.Distinguished.{MarkedUpTo}
use Rattle.wax_compare.proofs.distinctions.mark_exceptions.Given as goal

abbrev pub invariant-loop-letter : goal.invariant-loop-letter
invariant-loop-letter l = KeepsMarks l.fn.marked.items l.marked.items
    × (length l.marked.items ≡ length l.fn.marked.items)
    × MarkedUpTo l.letter-items l.marked.items l.letter-index
