use Rattle.wax_set.proofs.Edges.{HaveEnds}
use Rattle.wax_set.proofs.set.edges.ends_of_some.Given as goal

abbrev pub invariant-loop-token : goal.invariant-loop-token
invariant-loop-token l = HaveEnds l.tokens l.token-index l.ends.items
