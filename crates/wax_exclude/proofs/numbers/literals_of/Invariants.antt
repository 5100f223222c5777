use Rattle.std.proofs.Common.{take}
use Rattle.wax_exclude.specs.inner.Numbers.{LinesPass}
use Rattle.wax_exclude.proofs.numbers.literals_of.Given as goal

abbrev pub invariant-loop-line : goal.invariant-loop-line
invariant-loop-line l = LinesPass (take l.line-index l.lines) l.literals
