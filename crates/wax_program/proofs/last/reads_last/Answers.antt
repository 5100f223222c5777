use Rattle.wax_program.proofs.LastNames.{reads_last_of}
use Rattle.wax_program.proofs.last.reads_last.Goals as goal

pub returns-then-begins_with_components-clause-last : goal.returns-then-begins_with_components-clause-last
returns-then-begins_with_components-clause-last c = λ stays.
    reads_last_of c.args.program.now.0 (c.stay_in_name.ensures.stay stays)
    (c.begins_with_components.ensures.fork c.if-begins_with_components.true)
    (c.begins_with_components.ensures.components c.if-begins_with_components.true)
