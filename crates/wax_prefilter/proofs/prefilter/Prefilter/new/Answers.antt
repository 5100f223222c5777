use Rattle.std.proofs.Common.{subst}
use Rattle.std.specs.Option.{IfSome}
use Rattle.wax_prefilter.specs.{inner.Ends.IsOfFirst, inner.Pairs.ArePairsOf}
use Rattle.wax_prefilter.proofs.prefilter.Prefilter.new.Goals as goal

pub invariant_of-result : goal.invariant_of-result
invariant_of-result c = (
  subst (λ facts. IfSome c.in_ok-pairs.pairs (ArePairsOf facts)) c.deref.ensures.value
      c.in_ok-pairs.ensures,
  subst (λ facts. IfSome c.end_of-end.result (IsOfFirst facts)) c.deref-2.ensures.value c.end_of-end.ensures,
)
