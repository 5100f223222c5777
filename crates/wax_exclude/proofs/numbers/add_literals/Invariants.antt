use Rattle.std.proofs.Common.{take}
use Rattle.wax_exclude.proofs.PassingLines.{KeepPassing}
use Rattle.wax_exclude.specs.inner.Numbers.{AlternativesPass}
use Rattle.wax_exclude.proofs.numbers.add_literals.Given as goal

abbrev pub invariant-loop-alternative : goal.invariant-loop-alternative
invariant-loop-alternative l =
    KeepPassing l.fn.literals l.literals
    × AlternativesPass (take l.alternative-index l.alternatives) l.literals
