use Rattle.std.proofs.Common.{◌≡◌, ◌++◌, drop}
use Rattle.std.specs.List.{flat_map}
use Rattle.wax_components.specs.Levels.{sub_globs}
use Rattle.wax_components.proofs.levels.next_level.Given as goal

abbrev pub invariant-loop-glob : goal.invariant-loop-glob
invariant-loop-glob g l =
    l.level.items ++ flat_map sub_globs (drop l.glob-index l.globs) ≡ flat_map sub_globs l.globs
