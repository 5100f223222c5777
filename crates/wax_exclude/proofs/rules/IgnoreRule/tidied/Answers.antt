use Rattle.std.proofs.Common.{◌∙◌, subst}
use Rattle.std.specs.Prelude.{IfOk}
use Rattle.wax_exclude.specs.Tidy.{TidiesUp}
use Rattle.wax_exclude.proofs.rules.IgnoreRule.tidied.Goals as goal

pub returns-clause-tidy : goal.returns-clause-tidy
returns-clause-tidy c =
    subst (λ lines. IfOk c.tidied.result (λ tidy.
    TidiesUp lines tidy.removed.items tidy.indexes.items tidy.lines.items tidy.unknown.items))
    (c.as_slice.ensures.value ∙ c.self.view_is) c.tidied.ensures.tidy
