use Rattle.std.proofs.Common.{chars, string_bytes}
use Rattle.wax_set.proofs.Edges.{HaveBegun}
use Rattle.wax_set.proofs.set.edges.beginning_of.Given as goal

abbrev pub invariant-loop-token : goal.invariant-loop-token
invariant-loop-token l = HaveBegun l.tokens l.token-index (chars (string_bytes l.beginning))
