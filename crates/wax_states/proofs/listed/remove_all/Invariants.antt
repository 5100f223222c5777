use Rattle.wax_states.proofs.Listings.{RemovedBefore}
use Rattle.wax_states.proofs.listed.remove_all.Given as goal

abbrev pub invariant-loop-place : goal.invariant-loop-place
invariant-loop-place l = RemovedBefore l.fn.set l.set l.places l.place-index
