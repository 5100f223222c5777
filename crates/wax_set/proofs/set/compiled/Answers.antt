use Rattle.std.proofs.Common.{◌∙◌, subst, sym}
use Rattle.wax_prefilter.specs.Compiled.{IsCompiled}
use Rattle.wax_set.specs.Sets.{IsAlternation, IsNumbered}
use Rattle.wax_set.proofs.Numbers.{numbers_branches}
use Rattle.wax_set.proofs.set.compiled.Goals as goal

pub shared-requires-clause-alternates : goal.shared-requires-clause-alternates
shared-requires-clause-alternates c = subst IsAlternation (sym c.as_ref-3.ensures.same) c.requires

pub shared-requires-clause-compiled : goal.shared-requires-clause-compiled
shared-requires-clause-compiled c =
    subst (λ t. IsCompiled t c.in_ok-alternation.alternation)
    (c.as_ref.ensures.same ∙ sym c.as_ref-3.ensures.same) c.in_ok-alternation.ensures.compiled

pub shared-requires-clause-numbers : goal.shared-requires-clause-numbers
shared-requires-clause-numbers c =
    subst (λ t. IsNumbered t c.in_ok-numbered.numbered.0)
    (c.as_ref-2.ensures.same ∙ sym c.as_ref-3.ensures.same)
    (numbers_branches c.branches_of.result.now c.as_ref-2.result.now c.in_ok-numbered.numbered.0
    c.branches_of.ensures c.in_ok-numbered.ensures.means c.in_ok-numbered.ensures.closed
    c.in_ok-numbered.ensures.shorter)

pub invariant_of-result : goal.invariant_of-result
invariant_of-result c = record {
  compiled = subst (λ t. IsCompiled t c.in_ok-compiled.compiled) c.as_ref-3.ensures.same
      c.in_ok-compiled.ensures;
  numbers = subst (IsNumbered c.args.token)
      (sym c.with_most.ensures) (subst (λ t. IsNumbered t c.in_ok-numbered.numbered.0) c.as_ref-2.ensures.same
      (numbers_branches c.branches_of.result.now c.as_ref-2.result.now c.in_ok-numbered.numbered.0
      c.branches_of.ensures c.in_ok-numbered.ensures.means c.in_ok-numbered.ensures.closed
      c.in_ok-numbered.ensures.shorter));
  alternates = c.requires;
}
