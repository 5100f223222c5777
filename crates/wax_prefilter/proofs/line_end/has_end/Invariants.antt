use Rattle.wax_prefilter.specs.inner.Ends.{EndsWith}
use Rattle.wax_prefilter.proofs.Holding.{NoneBefore}
use Rattle.wax_prefilter.proofs.line_end.has_end.Given as goal

-- none of the needles so far is at the end
abbrev pub invariant-loop-needle : goal.invariant-loop-needle
invariant-loop-needle l = NoneBefore (λ held. EndsWith held l.bytes) l.needle-index l.needles
