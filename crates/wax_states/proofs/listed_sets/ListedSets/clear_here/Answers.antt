use Rattle.std.proofs.Common.{arith}
use Rattle.wax_states.proofs.Listings.{none_unread, nothing_listed}
use Rattle.wax_states.proofs.listed_sets.ListedSets.clear_here.Goals as goal

pub clear_position-requires-clause-room : goal.clear_position-requires-clause-room
clear_position-requires-clause-room c =
    λ k h. omega (arith, c.self.invariant.here_within k h, c.self.invariant.read_room)

pub clear_position-requires-clause-among : goal.clear_position-requires-clause-among
clear_position-requires-clause-among c = c.self.invariant.read_here

pub invariant_of-self : goal.invariant_of-self
invariant_of-self c =
    nothing_listed c.self.inside.size c.clear_position.new.here c.self.inside.next c.clear_position.new.read
    (omega (arith, c.self.invariant.here_room, c.clear_position.ensures.limit)) c.self.invariant.next_room
    (omega (arith, c.self.invariant.read_room, c.clear_position.ensures.room))
    c.clear_position.ensures.here c.clear_position.ensures.read c.self.invariant.next_within
    c.self.invariant.next_lists

pub returns-clause-pending : goal.returns-clause-pending
returns-clause-pending c =
    none_unread c.clear_position.new.here.flags c.clear_position.new.read c.clear_position.ensures.here
