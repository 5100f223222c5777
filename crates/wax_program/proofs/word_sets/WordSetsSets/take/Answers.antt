use Rattle.std.proofs.Common.{◌<◌, arith}
use Rattle.wax_program.proofs.Taking.{reads_few, takes_few, takes}
use Rattle.wax_program.specs.Places.{HoldsPlace}
use Rattle.wax_program.proofs.word_sets.WordSetsSets.take.Goals as goal

pub returns-then-at-self-clause-few : goal.returns-then-at-self-clause-few
returns-then-at-self-clause-few c =
    rw (← c.self.view_is) (reads_few c.self.inside.size 0 c.self.inside.pending c.self.inside.read
    c.self.inside.next c.self.invariant)

pub returns-clause-few : goal.returns-clause-few
returns-clause-few c =
    let lt : c.first-at.result < c.self.inside.size = omega (arith, c.if-at-self.false) in
    let held : HoldsPlace c.self.inside.pending c.first-at.result =
    c.first-at.ensures.held (omega (arith, lt, c.self.invariant.pending_room)) in
    rw c.insert.ensures (takes_few c.self.inside.size 0 c.self.inside.pending c.self.inside.read
    c.self.inside.next c.self.invariant c.first-at.result held lt)

pub returns-clause-taken : goal.returns-clause-taken
returns-clause-taken c =
    let lt : c.first-at.result < c.self.inside.size = omega (arith, c.if-at-self.false) in
    let held : HoldsPlace c.self.inside.pending c.first-at.result =
    c.first-at.ensures.held (omega (arith, lt, c.self.invariant.pending_room)) in
    rw (← c.self.view_is, c.remove.ensures, c.insert.ensures)
    (takes c.self.inside.size 0 c.self.inside.pending c.self.inside.read c.self.inside.next c.self.invariant
    c.first-at.result held lt)
