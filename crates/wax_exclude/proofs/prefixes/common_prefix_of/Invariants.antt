use Rattle.std.proofs.Common.{take}
use Rattle.wax_exclude.proofs.SharedPrefixes.{SharesUntil}
use Rattle.wax_exclude.proofs.prefixes.common_prefix_of.Given as goal

abbrev pub invariant-loop-token : goal.invariant-loop-token
invariant-loop-token l = SharesUntil (take l.token-index l.tokens) l.shared
