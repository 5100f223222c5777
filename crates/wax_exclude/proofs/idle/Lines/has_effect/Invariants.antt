use Rattle.wax_exclude.proofs.IdleLines.{TakesNoneOf}
use Rattle.wax_exclude.proofs.idle.Lines.has_effect.Given as goal

abbrev pub invariant-loop-earlier : goal.invariant-loop-earlier
invariant-loop-earlier l = TakesNoneOf l.self.lines.now l.index l.earlier
