use Rattle.std.proofs.Common.{◌≡◌, ◌++◌, drop}
use Rattle.std.specs.List.{flat_map}
use Rattle.wax_components.specs.Levels.{sub_globs_in, sub_globs}
use Rattle.wax_components.proofs.levels.push_sub_globs.Given as goal

abbrev pub invariant-loop-token : goal.invariant-loop-token
invariant-loop-token g l =
    l.level.items ++ flat_map sub_globs_in (drop l.token-index l.token-items)
    ≡ l.initial.level.items ++ sub_globs l.glob
