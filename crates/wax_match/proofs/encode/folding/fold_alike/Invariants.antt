use Rattle.wax_match.proofs.Folding.{Agrees}
use Rattle.wax_match.proofs.encode.folding.fold_alike.Given as goal

abbrev pub invariant-loop-index : goal.invariant-loop-index
invariant-loop-index l = Agrees l.left l.right l.index
