use Rattle.wax_c.specs.Sets.{cut_each}
use Rattle.wax_c.proofs.Spelled.{is_set_of}
use Rattle.wax_c.proofs.sets.set_of_spelled.Goals as goal

pub returns-in-Ok : goal.returns-in-Ok
returns-in-Ok c =
    is_set_of (cut_each c.args.patterns.now c.args.lengths.now) c.in-Some.expressions.items c.in-Ok.set
    c.in-Some.ensures c.in-Ok.ensures
