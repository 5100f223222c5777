use Rattle.std.proofs.Common.{ℕ, List, chars, string_bytes}
use Rattle.wax_prefilter.proofs.Holding.{NoneBefore}
use Rattle.wax_set.specs.inner.Edges.{HasEnd, HasOneEnd}
use Rattle.wax_set.proofs.set.edges.some_may_end.Given as goal

abbrev pub invariant-loop-end : goal.invariant-loop-end
invariant-loop-end l = (text : List ℕ) → HasOneEnd l.second text
    → NoneBefore (λ end. HasEnd (chars (string_bytes end)) text) l.end-index l.first
