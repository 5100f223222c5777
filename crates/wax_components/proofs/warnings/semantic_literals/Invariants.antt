use Rattle.std.proofs.Common.{◌≡◌, ◌++◌, drop, chars}
use Rattle.std.specs.List.{flat_map}
use Rattle.wax_components.specs.{Levels.literals, Warnings.semantic_warnings}
use Rattle.wax_components.proofs.warnings.semantic_literals.Given as goal

abbrev pub invariant-loop-component : goal.invariant-loop-component
invariant-loop-component l =
    l.warnings.items ++ flat_map (semantic_warnings (chars l.expression))
    (drop l.component-index l.component-items)
    ≡ flat_map (semantic_warnings (chars l.expression)) (literals l.token)
