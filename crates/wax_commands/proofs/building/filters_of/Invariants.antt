use Rattle.std.proofs.Common.{List, length, map}
use Rattle.std.specs.Fn.{FnReturnsAt}
use Rattle.wax.specs.Exclusions.{rule_by}
use Rattle.wax_exclude.specs.{Ignored.ignore_mark, Excluded.excluded_mark}
use Rattle.wax_command_line.specs.Commands.{SayEach, WalkOption}
use Rattle.wax_commands.proofs.Leaving.{SoFar}
use Rattle.wax_commands.proofs.building.filters_of.Given as goal

abbrev pub invariant-loop-option : goal.invariant-loop-option
invariant-loop-option g l =
    (asked : List WalkOption) → SayEach l.options asked
    → SoFar (FnReturnsAt g.B.Fn l.read) l.rest asked
    (map (rule_by (λ e c. excluded_mark e c) (λ lines c. ignore_mark lines c)) l.filters.items)

abbrev pub decreases-loop-option : goal.decreases-loop-option
decreases-loop-option g l = length l.rest
