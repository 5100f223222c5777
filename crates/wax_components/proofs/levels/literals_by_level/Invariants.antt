use Rattle.std.proofs.Common.{◌≡◌, ◌++◌}
use Rattle.std.specs.List.{flat_map}
use Rattle.wax_components.specs.Levels.{literals, literals_in}
use Rattle.wax_components.proofs.Globs.{weight, rest}
use Rattle.wax_components.proofs.levels.literals_by_level.Given as goal

abbrev pub invariant-loop-alloc : goal.invariant-loop-alloc
invariant-loop-alloc g l = l.found.items ++ flat_map literals_in (rest l.level.items) ≡ literals l.token

abbrev pub decreases-loop-alloc : goal.decreases-loop-alloc
decreases-loop-alloc g l = weight l.level.items
