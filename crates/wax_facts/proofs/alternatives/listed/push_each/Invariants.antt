use Rattle.std.proofs.Common.{◌≡◌, ◌++◌, drop}
use Rattle.wax_facts.proofs.alternatives.listed.push_each.Given as goal

abbrev pub invariant-loop-token : goal.invariant-loop-token
invariant-loop-token g l = l.list.items ++ drop l.token-index l.tokens ≡ l.initial.list.items ++ l.tokens
