use Rattle.std.proofs.Common.{chars}
use Rattle.wax_prefilter.specs.Facts.{ContainsAt}
use Rattle.wax_prefilter.proofs.Holding.{NoneBefore}
use Rattle.wax_prefilter.proofs.prefilter.one_may_be_at.Given as goal

-- no needle stands there so far
abbrev pub invariant-loop-needle : goal.invariant-loop-needle
invariant-loop-needle l =
    NoneBefore (λ held. ContainsAt l.anchor held (chars l.text)) l.needle-index l.needles
