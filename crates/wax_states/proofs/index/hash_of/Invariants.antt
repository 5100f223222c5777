use Rattle.std.proofs.Common.{◌≡◌, drop}
use Rattle.wax_states.specs.inner.Slots.{hash_from}
use Rattle.wax_states.proofs.index.hash_of.Given as goal

abbrev pub invariant-loop-place : goal.invariant-loop-place
invariant-loop-place l = hash_from l.hash (drop l.place-index l.places) ≡ hash_from 0 l.places
