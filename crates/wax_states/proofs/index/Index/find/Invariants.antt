use Rattle.std.proofs.Common.{map}
use Rattle.wax_states.specs.inner.Slots.{NoneFoundBefore}
use Rattle.wax_states.proofs.index.Index.find.Given as goal

abbrev pub invariant-loop-probe : goal.invariant-loop-probe
invariant-loop-probe g l = NoneFoundBefore l.self (map g.S.HasPlaces.places_of l.states) l.places l.probe
