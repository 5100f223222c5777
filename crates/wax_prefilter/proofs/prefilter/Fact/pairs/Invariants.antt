use Rattle.wax_prefilter.proofs.Pairs.{HavePairs}
use Rattle.wax_prefilter.proofs.prefilter.Fact.pairs.Given as goal

abbrev pub invariant-loop-needle : goal.invariant-loop-needle
invariant-loop-needle l = HavePairs l.in_any_case l.self.0 l.self.1 l.needle-index l.pairs.items
