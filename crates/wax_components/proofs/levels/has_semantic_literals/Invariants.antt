use Rattle.std.proofs.Common.{◌≡◌, drop}
use Rattle.std.specs.List.{list_any}
use Rattle.wax_components.specs.{Parts.is_semantic, Warnings.has_semantic_literals}
use Rattle.wax_components.proofs.levels.has_semantic_literals.Given as goal

abbrev pub invariant-loop-literal : goal.invariant-loop-literal
invariant-loop-literal g l =
    list_any (λ c. is_semantic c.1) (drop l.literal-index l.literal-items) ≡ has_semantic_literals l.token
