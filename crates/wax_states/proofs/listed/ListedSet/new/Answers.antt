use Rattle.std.proofs.Common.{arith}
use Rattle.wax_states.proofs.Listings.{listing_none}
use Rattle.wax_states.proofs.listed.ListedSet.new.Goals as goal

pub invariant_of-result : goal.invariant_of-result
invariant_of-result c =
    rw c.in_ok-places.ensures.items (listing_none c.args.limit _ c.in_ok-flags.flags (omega
    (arith, c.in_ok-flags.ensures.room)) c.in_ok-flags.ensures.empty c.in_ok-places.ensures.capacity)
