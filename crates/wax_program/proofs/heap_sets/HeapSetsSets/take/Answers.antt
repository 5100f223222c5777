use Rattle.std.proofs.Common.{◌<◌, arith}
use Rattle.wax_program.proofs.Taking.{reads_few, takes_few, takes}
use Rattle.wax_program.proofs.heap_sets.HeapSetsSets.take.Goals as goal

pub returns-in_err-at-clause-few : goal.returns-in_err-at-clause-few
returns-in_err-at-clause-few c =
    rw (← c.self.view_is) (reads_few c.self.inside.size c.self.inside.first c.self.inside.pending
    c.self.inside.read c.self.inside.next c.self.invariant)

pub returns-then-at-self-clause-few : goal.returns-then-at-self-clause-few
returns-then-at-self-clause-few c =
    rw (← c.self.view_is) (reads_few c.self.inside.size c.self.inside.first c.self.inside.pending
    c.self.inside.read c.self.inside.next c.self.invariant)

pub returns-clause-few : goal.returns-clause-few
returns-clause-few c =
    let lt : c.in_ok-at.at < c.self.inside.size = omega (arith, c.if-at-self.false) in
    rw c.insert.ensures (takes_few c.self.inside.size c.self.inside.first c.self.inside.pending
    c.self.inside.read c.self.inside.next c.self.invariant c.in_ok-at.at c.in_ok-at.ensures.0 lt)

pub returns-clause-taken : goal.returns-clause-taken
returns-clause-taken c =
    let lt : c.in_ok-at.at < c.self.inside.size = omega (arith, c.if-at-self.false) in
    rw (← c.self.view_is, c.remove.ensures, c.insert.ensures)
    (takes c.self.inside.size c.self.inside.first c.self.inside.pending c.self.inside.read c.self.inside.next
    c.self.invariant c.in_ok-at.at c.in_ok-at.ensures.0 lt)
