use Rattle.std.proofs.Common.{◌≡◌, ◌++◌, drop}
use Rattle.std.specs.List.{flat_map}
use Rattle.wax_components.specs.{Levels.literals_in, Parts.with_text}
use Rattle.wax_components.proofs.levels.push_literals.Given as goal

abbrev pub invariant-loop-component : goal.invariant-loop-component
invariant-loop-component g l =
    l.found.items ++ flat_map with_text (drop l.component-index l.component-items)
    ≡ l.initial.found.items ++ literals_in l.glob
