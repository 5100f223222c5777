use Rattle.std.proofs.Common.{◌≡◌, drop, fold}
use Rattle.wax_components.specs.{Parts.literals_text, inner.Dots.{dot_after, dots_of}}
use Rattle.wax_components.proofs.parts.LiteralSequence.dots.Given as goal

abbrev pub invariant-loop-token : goal.invariant-loop-token
invariant-loop-token g l =
    fold dot_after l.dots (literals_text (drop l.token-index l.token-items)) ≡ dots_of l.self
