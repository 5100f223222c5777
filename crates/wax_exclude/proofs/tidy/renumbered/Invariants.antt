use Rattle.std.proofs.Common.{take}
use Rattle.std.specs.List.{AllZip}
use Rattle.wax_exclude.specs.inner.Tidy.{IsRenumbered}
use Rattle.wax_exclude.proofs.tidy.renumbered.Given as goal

abbrev pub invariant-loop-line : goal.invariant-loop-line
invariant-loop-line l = AllZip (IsRenumbered l.indexes) (take l.line-index l.known) l.found.items
