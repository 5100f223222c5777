use Rattle.std.proofs.Common.{true, subst, sym}
use Rattle.wax_prefilter.specs.inner.Pairs.{NoPairsBefore, lowered}
use Rattle.wax_prefilter.proofs.pair.SoughtPairs.find_first.Goals as goal

pub returns-then-self-clause-before : goal.returns-then-self-clause-before
returns-then-self-clause-before c =
    let bytes = c.args.bytes.now in
    let found = c.find_in_any_case.result in
    subst (λ z. NoPairsBefore c.args.self.now.list.items (lowered z bytes) found) (sym c.if-self.true)
    (subst (λ ps. NoPairsBefore ps (lowered true bytes) found) c.deref.ensures.value
    c.find_in_any_case.ensures.before)

pub returns-else-self-clause-before : goal.returns-else-self-clause-before
returns-else-self-clause-before c =
    let bytes = c.args.bytes.now in
    let found = c.find_as_they_are.result in
    subst (λ z. NoPairsBefore c.args.self.now.list.items (lowered z bytes) found) (sym c.if-self.false)
    (subst (λ ps. NoPairsBefore ps bytes found) c.deref-else-self.ensures.value
    c.find_as_they_are.ensures.before)
