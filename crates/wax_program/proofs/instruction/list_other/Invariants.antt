use Rattle.std.proofs.Common.{take}
use Rattle.std.specs.Prelude.{All}
use Rattle.wax_program.proofs.Others.{HasOther}
use Rattle.wax_program.proofs.instruction.list_other.Given as goal

abbrev pub invariant-loop-archetype : goal.invariant-loop-archetype
invariant-loop-archetype l = All (λ x. ¬ (HasOther x)) (take l.archetype-index l.archetypes)
