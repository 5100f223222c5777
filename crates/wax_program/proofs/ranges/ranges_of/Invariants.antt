use Rattle.std.proofs.Common.{◌≡◌, ◌∷◌, map, take}
use Rattle.wax_program.specs.inner.Ranges.{number_range_of}
use Rattle.wax_program.proofs.ranges.ranges_of.Given as goal

abbrev pub invariant-loop-archetype : goal.invariant-loop-archetype
invariant-loop-archetype l =
    l.ranges.items ≡ (47, 48) ∷ (55296, 57344) ∷ map number_range_of (take l.archetype-index l.archetypes)
