use Rattle.std.proofs.Common.{◌≡◌, ◌++◌, drop}
use Rattle.wax_components.proofs.levels.push_each.Given as goal

abbrev pub invariant-loop-token : goal.invariant-loop-token
invariant-loop-token g l = l.level.items ++ drop l.token-index l.tokens ≡ l.initial.level.items ++ l.tokens
