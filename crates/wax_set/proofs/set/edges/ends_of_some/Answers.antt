use Rattle.std.proofs.Common.{chars, subst, sym}
use Rattle.wax_set.specs.inner.Edges.{HasEnd}
use Rattle.wax_set.proofs.Edges.{ends_all, ends_more}
use Rattle.wax_set.proofs.set.edges.ends_of_some.Goals as goal

pub loop-token-preserved : goal.loop-token-preserved
loop-token-preserved c =
    ends_more c.args.tokens.now c.loop-token.token-index c.token-item.result c.loop-token.ends.items
    c.push.new.self.items c.in_ok-from_str.field-0 c.loop-token-test.true c.token-item.is
    (λ before after text m. subst (λ s. HasEnd (chars s) text) (sym c.in_ok-from_str.ensures.ok)
    (c.in-Some.ensures before after text m)) c.in_ok-push.ensures.items c.loop-token.invariant

pub returns : goal.returns
returns c =
    ends_all c.args.tokens.now c.loop-token.token-index c.loop-token.ends.items c.loop-token-test.false
    c.loop-token.invariant
