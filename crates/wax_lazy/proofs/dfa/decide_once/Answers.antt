use Rattle.std.proofs.Common.{rules}
use Rattle.wax_lazy.proofs.dfa.decide_once.Goals as goal

pub run_last-requires-clause-last : goal.run_last-requires-clause-last
run_last-requires-clause-last c = c.requires.last (search rules)
