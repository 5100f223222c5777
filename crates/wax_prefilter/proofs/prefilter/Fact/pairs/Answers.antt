use Rattle.std.proofs.Common.{◌≡◌, ◌<◌, ◌+◌, ◌∙◌, IfSome, length, get_or, ap, subst, sym, arith}
use Rattle.wax_prefilter.specs.inner.Pairs.{IsPairOf}
use Rattle.wax_prefilter.proofs.Pairs.{HavePairs, next_has}
use Rattle.wax_prefilter.proofs.prefilter.Fact.pairs.Goals as goal

pub loop-needle-preserved : goal.loop-needle-preserved
loop-needle-preserved c =
    let anchor = c.args.self.now.0 in
    let needles = c.args.self.now.1 in
    let i = c.loop-needle.needle-index in
    let needle = c.needle-item.result in
    let in_any_case = c.any-in_any_case.result in
    let same : c.deref-needle-items.result.now ≡ needles =
    c.deref-needle-items.ensures.value ∙ ap (λ v. v.1) c.self.view_is in
    let below : i < length needles = subst (λ z. i < length z) same c.loop-needle-test.true in
    let is : needle ≡ get_or needles i needle = c.needle-item.is ∙ ap (λ z. get_or z i needle) same in
    let has : IsPairOf needle in_any_case c.in-Some.pair =
    subst (λ p. IfSome p (IsPairOf needle in_any_case)) c.in-Some.is c.rarest_pair.ensures in
    subst (HavePairs in_any_case anchor needles (i + 1)) (sym c.in_ok-push.ensures.items)
    (next_has in_any_case anchor needles i needle c.loop-needle.pairs.items c.in-Some.pair below is
    c.loop-needle.invariant has)

pub returns : goal.returns
returns c = λ text utf8 (k, needle, lt, is, stands).
    let same : c.deref-needle-items.result.now ≡ c.args.self.now.1 =
    c.deref-needle-items.ensures.value ∙ ap (λ v. v.1) c.self.view_is in
    let below : k < c.loop-needle.needle-index =
    omega (arith, lt, ap length same, c.loop-needle-test.false) in
    c.loop-needle.invariant k needle below is text utf8 stands
