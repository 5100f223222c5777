use Rattle.std.proofs.Common.{◌∙◌, subst}
use Rattle.std.specs.Prelude.{IfOk}
use Rattle.wax_exclude.specs.{Idle.AreIdle, Undecided.AreUndecided}
use Rattle.wax_exclude.proofs.rules.IgnoreRule.idle_lines.Goals as goal

pub returns-clause-idle : goal.returns-clause-idle
returns-clause-idle c =
    subst (λ lines. IfOk c.idle_lines.result (λ idle. AreIdle lines idle.items))
    (c.as_slice.ensures.value ∙ c.self.view_is) c.idle_lines.ensures.idle

pub returns-clause-undecided : goal.returns-clause-undecided
returns-clause-undecided c =
    subst (λ lines. IfOk c.idle_lines.result (λ idle. AreUndecided lines c.args.most_states idle.items))
    (c.as_slice.ensures.value ∙ c.self.view_is) c.idle_lines.ensures.undecided
