use Rattle.std.proofs.{Common.None, lemmas.Result.IfOk-weaker}
use Rattle.wax_program.proofs.onward.Onward.without_limit.Goals as goal

pub returns-clause-flags : goal.returns-clause-flags
returns-clause-flags c = IfOk-weaker c.find.result _ _ (λ f are. are None tt) c.find.ensures.flags
