use Rattle.std.proofs.Common.{arith}
use Rattle.wax_states.proofs.Listings.{turned, unread_all}
use Rattle.wax_states.proofs.listed_sets.ListedSetsSets.turn.Goals as goal

pub clear_position-requires-clause-room : goal.clear_position-requires-clause-room
clear_position-requires-clause-room c =
    λ k h. omega (arith, c.self.invariant.here_within k h, c.self.invariant.read_room)

pub clear_position-requires-clause-among : goal.clear_position-requires-clause-among
clear_position-requires-clause-among c = c.self.invariant.read_here

pub invariant_of-self : goal.invariant_of-self
invariant_of-self c =
    let s = c.self.inside in
    rw (c.swap.ensures.x_after, c.swap.ensures.y_after)
    (turned s.size s.taken s.here s.next c.clear_position.new.here s.read c.clear_position.new.read
    c.self.invariant c.clear_position.ensures.limit c.clear_position.ensures.here
    c.clear_position.ensures.places c.clear_position.ensures.room c.clear_position.ensures.read)

pub returns-clause-pending : goal.returns-clause-pending
returns-clause-pending c =
    rw (c.swap.ensures.x_after, ← c.self.view_is)
    (unread_all c.self.inside.next.flags c.clear_position.new.read c.clear_position.ensures.read)

pub returns-clause-next : goal.returns-clause-next
returns-clause-next c = rw c.swap.ensures.y_after c.clear_position.ensures.here
