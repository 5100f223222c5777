use Rattle.wax_exclude.proofs.IdleLaw.{all_idle_can_go, idle_can_go, idle_can_go_together}
use Rattle.wax_exclude.proofs.laws.law_of_idle_lines.Goals as goal

pub returns-clause-one : goal.returns-clause-one
returns-clause-one c = idle_can_go

pub returns-clause-some : goal.returns-clause-some
returns-clause-some c = idle_can_go_together

pub returns-clause-all : goal.returns-clause-all
returns-clause-all c = all_idle_can_go
