use Rattle.std.proofs.Common.{◌∙◌, ap, rules, subst, sym}
use Rattle.wax_program.specs.Machine.{Accepts}
use Rattle.wax_prefilter.proofs.compiled.CompiledTokens.with_numbered.Goals as goal

pub invariant_of-result : goal.invariant_of-result
invariant_of-result c = (
  λ text accepted. c.self.invariant.0 text (subst (λ p. Accepts p.0 0 text) (sym c.self.view_is)
      ((c.requires.same text).0 ((c.in_ok-program.ensures.accepts text).0 accepted))),
  c.of-dfa.ensures,
)

pub returns : goal.returns
returns c = record {
  accepts = λ text. (
    (λ a. (c.requires.same text).0 ((c.in_ok-program.ensures.accepts text).0 a)),
    (λ a. (c.in_ok-program.ensures.accepts text).1 ((c.requires.same text).1 a)),
  );
  len = c.in_ok-program.ensures.len ∙ c.len-len.ensures ∙ ap (λ p. p.1) c.self.view_is;
  longer = λ _. search rules;
}
