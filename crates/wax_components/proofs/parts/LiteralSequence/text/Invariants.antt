use Rattle.std.proofs.Common.{◌≡◌, ◌++◌, drop, chars, string_bytes}
use Rattle.wax_components.specs.Parts.{literals_text}
use Rattle.wax_components.proofs.parts.LiteralSequence.text.Given as goal

abbrev pub invariant-loop-token : goal.invariant-loop-token
invariant-loop-token g l =
    chars (string_bytes l.text) ++ literals_text (drop l.token-index l.token-items) ≡ l.self
