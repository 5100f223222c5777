use Rattle.std.proofs.Common.{◌≡◌, ◌++◌, map, drop}
use Rattle.wax_fold.proofs.walk.sequence.each.Given as goal

abbrev pub invariant-loop-token : goal.invariant-loop-token
invariant-loop-token g l = map (λ c. c.now) l.children.items ++ drop l.token-index l.tokens ≡ l.tokens
