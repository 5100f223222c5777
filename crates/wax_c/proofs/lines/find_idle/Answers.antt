-- The lines that decide nothing are no more than the list has.
use Rattle.std.proofs.Common.{ap, ◌∙◌}
use Rattle.wax_c.specs.Lines.{sure_indexes}
use Rattle.wax_c.proofs.FewLines.{few_sure}
use Rattle.wax_c.proofs.lines.find_idle.Goals as goal

pub returns-clause-few : goal.returns-clause-few
returns-clause-few c =
    few_sure _ _ _ c.in_ok-idle.ensures.idle (c.in_ok-indexes.ensures ∙ ap sure_indexes c.deref.ensures.value)
