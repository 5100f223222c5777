-- The lines of which it isn't known whether they decide are no more than the list has.
use Rattle.std.proofs.Common.{ap, ◌∙◌}
use Rattle.wax_c.specs.Lines.{unsure_indexes}
use Rattle.wax_c.proofs.FewLines.{few_unsure}
use Rattle.wax_c.proofs.lines.find_undecided.Goals as goal

pub returns-clause-few : goal.returns-clause-few
returns-clause-few c =
    let same = c.in_ok-indexes.ensures ∙ ap unsure_indexes c.deref.ensures.value in
    few_unsure _ _ _ c.in_ok-idle.ensures.idle same
