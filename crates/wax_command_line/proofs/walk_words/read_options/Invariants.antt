use Rattle.std.proofs.Common.{List, length}
use Rattle.wax_command_line.specs.{Commands.WalkOption, inner.OptionWords.AreSaidBy}
use Rattle.wax_command_line.proofs.OptionWords.{Begins}
use Rattle.wax_command_line.proofs.walk_words.read_options.Given as goal

abbrev pub invariant-loop-option : goal.invariant-loop-option
invariant-loop-option l = (done : List WalkOption) × Begins l.words l.rest done × AreSaidBy l.bounds done

abbrev pub decreases-loop-option : goal.decreases-loop-option
decreases-loop-option l = length l.rest
