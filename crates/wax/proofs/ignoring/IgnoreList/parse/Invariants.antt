use Rattle.std.proofs.Common.{map, take}
use Rattle.wax_exclude.specs.Lines.{written_of}
use Rattle.wax.proofs.IgnoreLines.{AreRead}
use Rattle.wax.proofs.ignoring.IgnoreList.parse.Given as goal

abbrev pub invariant-loop-line : goal.invariant-loop-line
invariant-loop-line l = AreRead (map written_of (take l.line-index l.line-items)) l.lines.items
