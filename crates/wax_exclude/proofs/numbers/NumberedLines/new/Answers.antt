use Rattle.std.proofs.Common.{◌∙◌, subst}
use Rattle.std.specs.Prelude.{IfOk}
use Rattle.wax_exclude.specs.inner.Numbers.{KnowsLines}
use Rattle.wax_exclude.proofs.numbers.NumberedLines.new.Goals as goal

pub returns : goal.returns
returns c =
    subst (λ lines. IfOk c.of_split.result (KnowsLines lines))
    (c.as_slice.ensures.value ∙ c.in_ok-split.ensures) c.of_split.ensures
