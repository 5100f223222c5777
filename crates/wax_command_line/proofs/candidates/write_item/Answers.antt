use Rattle.wax_command_line.proofs.Lines.{err_holds}
use Rattle.wax_command_line.proofs.candidates.write_item.Goals as goal

pub returns-in_err-write_candidate-in-Ok-clause-err : goal.returns-in_err-write_candidate-in-Ok-clause-err
returns-in_err-write_candidate-in-Ok-clause-err g c =
    err_holds _ c.from_residual.result _ c.from_residual.ensures.1 c.in_err-write_candidate-in-Ok.ensures.err
