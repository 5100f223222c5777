use Rattle.std.proofs.Common.{arith}
use Rattle.wax_states.proofs.Listings.{lists_none, none_unread, nothing_listed}
use Rattle.wax_states.proofs.listed_sets.ListedSets.new.Goals as goal

pub invariant_of-result : goal.invariant_of-result
invariant_of-result c =
    nothing_listed c.size.result c.in_ok-here.here c.in_ok-next.next c.in_ok-read.read
    (omega (arith, c.size.ensures.size, c.size.ensures.few, c.in_ok-here.ensures.limit, c.len.ensures))
    (omega (arith, c.size.ensures.size, c.size.ensures.few, c.in_ok-next.ensures.limit, c.len-3.ensures))
    (omega (arith, c.size.ensures.size, c.size.ensures.few, c.in_ok-read.ensures.room, c.len-2.ensures))
    c.in_ok-here.ensures.flags c.in_ok-read.ensures.empty (λ k h. absurd (c.in_ok-next.ensures.flags k h))
    (lists_none c.in_ok-next.next.places c.in_ok-next.next.flags c.in_ok-next.ensures.places
    c.in_ok-next.ensures.flags)

pub returns-clause-pending : goal.returns-clause-pending
returns-clause-pending c = none_unread c.in_ok-here.here.flags c.in_ok-read.read c.in_ok-here.ensures.flags
