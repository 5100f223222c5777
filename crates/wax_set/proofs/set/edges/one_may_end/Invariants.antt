use Rattle.std.proofs.Common.{ℕ, List, chars, string_bytes}
use Rattle.wax_prefilter.proofs.Holding.{NoneBefore}
use Rattle.wax_set.specs.inner.Edges.{HasEnd}
use Rattle.wax_set.proofs.set.edges.one_may_end.Given as goal

abbrev pub invariant-loop-other : goal.invariant-loop-other
invariant-loop-other l = (text : List ℕ) → HasEnd (chars l.first) text
    → NoneBefore (λ end. HasEnd (chars (string_bytes end)) text) l.other-index l.others
