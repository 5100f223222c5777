use Rattle.std.proofs.Common.{rules}
use Rattle.wax_prefilter.proofs.compiled.CompiledTokens.is_match_metered.Goals as goal

pub run_last-requires-clause-last : goal.run_last-requires-clause-last
run_last-requires-clause-last c = c.reads_last.ensures.last _ c.self.invariant.1 (search rules)
