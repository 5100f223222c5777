use Rattle.std.proofs.Common.{take}
use Rattle.wax_exclude.specs.Undecided.{AreGlobsAt}
use Rattle.wax_exclude.proofs.idle.union_of.Given as goal

abbrev pub invariant-loop-index : goal.invariant-loop-index
invariant-loop-index l = AreGlobsAt l.lines (take l.index-index l.indexes) l.tokens.items
