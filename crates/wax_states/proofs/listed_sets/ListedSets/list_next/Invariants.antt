use Rattle.std.proofs.Common.{◌≡◌, take}
use Rattle.wax_states.proofs.listed_sets.ListedSets.list_next.Given as goal

abbrev pub invariant-loop-place : goal.invariant-loop-place
invariant-loop-place l = l.places.items ≡ take l.place-index l.place-items
