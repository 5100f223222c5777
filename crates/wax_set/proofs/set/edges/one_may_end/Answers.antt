use Rattle.std.proofs.Common.{◌∙◌, chars, string_bytes, subst, sym, true≢false}
use Rattle.wax_prefilter.proofs.Holding.{none_at_all, none_more}
use Rattle.wax_set.specs.inner.Edges.{HasEnd}
use Rattle.wax_set.proofs.set.edges.one_may_end.Goals as goal

pub loop-other-preserved : goal.loop-other-preserved
loop-other-preserved c = λ text has.
    none_more (λ end. HasEnd (chars (string_bytes end)) text) c.args.others.now c.loop-other.other-index
    c.other-item.result c.loop-other-test.true c.other-item.is
    (λ p. true≢false (sym (c.both_may_end.ensures text has
    (subst (λ s. HasEnd (chars s) text) (sym c.deref.ensures) p)) ∙ c.if-both_may_end.false))
    (c.loop-other.invariant text has)

pub returns : goal.returns
returns c = λ text has one. absurd (none_at_all (λ end. HasEnd (chars (string_bytes end)) text)
    c.args.others.now c.loop-other.other-index c.loop-other-test.false (c.loop-other.invariant text has) one)
