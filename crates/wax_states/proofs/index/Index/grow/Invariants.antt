use Rattle.std.proofs.Common.{map}
use Rattle.wax_states.proofs.Slots.{AreIndexedBefore}
use Rattle.wax_states.proofs.index.Index.grow.Given as goal

abbrev pub invariant-loop-number : goal.invariant-loop-number
invariant-loop-number g l =
    AreIndexedBefore l.self-inside.slots.items (map g.S.HasPlaces.places_of l.states) l.number
