use Rattle.std.proofs.Common.{◌∙◌, ◌↔◌, IsTrue, None, ap, chars, subst}
use Rattle.wax_lazy.specs.Verdict.{AcceptsBelow}
use Rattle.wax_prefilter.proofs.compiled.CompiledTokens.goes_on_metered.Goals as goal

pub returns-clause-below : goal.returns-clause-below
returns-clause-below c =
    subst
    (λ code. IsTrue c.in_ok-verdict.verdict.goes_on ↔ AcceptsBelow code None (chars c.args.text.now))
    (c.in_ok-matcher.ensures ∙ ap (λ p. p.0) c.self.view_is) c.in_ok-verdict.ensures.decides.below
