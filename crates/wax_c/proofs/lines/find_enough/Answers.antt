-- The lines that are enough are no more than the list has.
use Rattle.wax_c.proofs.FewLines.{few_enough}
use Rattle.wax_c.proofs.lines.find_enough.Goals as goal

pub returns-clause-few : goal.returns-clause-few
returns-clause-few c = few_enough _ _ _ _ _ c.in_ok-indexes.ensures.tidy
