use Rattle.std.proofs.Common.{◌≡◌, length}
use Rattle.wax_compare.specs.inner.Distinctions.{IsClosing}
use Rattle.wax_compare.proofs.closure.Closure.list.Given as goal

abbrev pub invariant-loop-at : goal.invariant-loop-at
invariant-loop-at l = (length l.self.index.items ≡ length l.program.0)
    × IsClosing l.program.0 l.places l.self.places.items l.at
