use Rattle.std.proofs.lemmas.Result.{IfOk-weaker}
use Rattle.wax_lengths.proofs.lengths.lengths_of.Goals as goal

pub returns-in-One-clause-lengths : goal.returns-in-One-clause-lengths
returns-in-One-clause-lengths c = rw c.in-One.is c.lengths_of_char.ensures.lengths

pub returns-in-Coded-clause-lengths : goal.returns-in-Coded-clause-lengths
returns-in-Coded-clause-lengths c = rw c.in-Coded.is
    (IfOk-weaker c.lengths_of_program.result _ _ (λ span h. h.lengths) c.lengths_of_program.ensures.found)
