use Rattle.std.proofs.Common.{◌≡◌, ◌++◌, drop}
use Rattle.std.specs.List.{flat_map}
use Rattle.wax_components.specs.Parts.{literals_text}
use Rattle.wax_components.proofs.parts.LiteralSequence.literals.Given as goal

-- the texts of the literals that were taken, and those of the tokens that are left
abbrev pub invariant-loop-token : goal.invariant-loop-token
invariant-loop-token g l =
    flat_map (λ literal. literal.now.1) l.literals.items
    ++ literals_text (drop l.token-index l.token-items) ≡ l.self
