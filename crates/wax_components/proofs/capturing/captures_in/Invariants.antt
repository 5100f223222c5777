use Rattle.std.proofs.Common.{◌≡◌, ◌+◌, ◌++◌, drop, length}
use Rattle.wax_components.specs.Capturing.{captures_in}
use Rattle.wax_components.proofs.capturing.captures_in.Given as goal

abbrev pub invariant-loop-token : goal.invariant-loop-token
invariant-loop-token l =
    l.found.items ++ captures_in (length l.found.items + 1) (drop l.token-index l.tokens)
    ≡ captures_in 1 l.tokens
