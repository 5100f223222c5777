use Rattle.std.proofs.Common.{◌∙◌, chars, string_bytes, subst, sym, true≢false}
use Rattle.wax_prefilter.proofs.Holding.{none_at_all, none_more}
use Rattle.wax_set.specs.inner.Edges.{HasEnd}
use Rattle.wax_set.proofs.set.edges.some_may_end.Goals as goal

pub loop-end-preserved : goal.loop-end-preserved
loop-end-preserved c = λ text others.
    none_more (λ end. HasEnd (chars (string_bytes end)) text) c.args.first.now c.loop-end.end-index
    c.end-item.result c.loop-end-test.true c.end-item.is
    (λ p. true≢false (sym (c.one_may_end.ensures text
    (subst (λ s. HasEnd (chars s) text) (sym c.deref.ensures) p) others) ∙ c.if-one_may_end.false))
    (c.loop-end.invariant text others)

pub returns : goal.returns
returns c = λ text one others. absurd (none_at_all (λ end. HasEnd (chars (string_bytes end)) text)
    c.args.first.now c.loop-end.end-index c.loop-end-test.false (c.loop-end.invariant text others) one)
