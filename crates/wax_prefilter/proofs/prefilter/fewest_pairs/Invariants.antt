use Rattle.std.specs.Option.{IfSome}
use Rattle.wax_prefilter.specs.inner.Pairs.{ArePairsOf}
use Rattle.wax_prefilter.proofs.prefilter.fewest_pairs.Given as goal

abbrev pub invariant-loop-fact : goal.invariant-loop-fact
invariant-loop-fact l = IfSome l.fewest (ArePairsOf l.facts)
