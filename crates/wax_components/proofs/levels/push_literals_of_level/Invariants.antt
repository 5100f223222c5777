use Rattle.std.proofs.Common.{◌≡◌, ◌++◌, drop}
use Rattle.std.specs.List.{flat_map}
use Rattle.wax_components.specs.Levels.{literals_in}
use Rattle.wax_components.proofs.levels.push_literals_of_level.Given as goal

abbrev pub invariant-loop-glob : goal.invariant-loop-glob
invariant-loop-glob g l =
    l.found.items ++ flat_map literals_in (drop l.glob-index l.globs)
    ≡ l.initial.found.items ++ flat_map literals_in l.globs
