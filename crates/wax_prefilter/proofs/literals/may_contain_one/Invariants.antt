use Rattle.std.proofs.Common.{chars}
use Rattle.wax_prefilter.proofs.Holding.{NoneBefore}
use Rattle.wax_prefilter.specs.{Facts.ContainsAt, declared.needle.Anchor.TheVariants.Anywhere}
use Rattle.wax_prefilter.proofs.literals.may_contain_one.Given as goal

-- the text has no needle so far
abbrev pub invariant-loop-needle : goal.invariant-loop-needle
invariant-loop-needle l =
    NoneBefore (λ held. ContainsAt Anywhere held (chars l.text)) l.needle-index l.needles
