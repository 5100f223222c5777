use Rattle.std.proofs.Common.{arith, ◌≡◌, ◌<◌, IsTrue, length, get_or, chars, sym, ap, ◌∙◌, subst, rules}
use Rattle.wax_prefilter.specs.Facts.{ContainsOne}
use Rattle.wax_prefilter.proofs.Lengths.{chars_short}
use Rattle.wax_prefilter.proofs.prefilter.Prefilter.passes.Goals as goal

pub returns-then-not-may_hold : goal.returns-then-not-may_hold
returns-then-not-may_hold c = λ passes.
    let text = chars c.args.text.now in
    let facts = c.args.self.now.1 in
    let i = c.loop-fact.fact-index in
    let fact = c.fact-item.result in
    let same : c.deref-fact-items.result.now ≡ facts =
    c.deref-fact-items.ensures.value ∙ ap (λ p. p.1) c.self.view_is in
    let below : i < length facts = subst (λ z. i < length z) same c.loop-fact-test.true in
    let is : fact ≡ get_or facts i fact = c.fact-item.is ∙ ap (λ z. get_or z i fact) same in
    let held : ContainsOne fact.0 fact.1 text =
    subst (λ f. ContainsOne f.0 f.1 text) (sym is) (passes.1 i fact below) in
    let k : IsTrue c.may_hold.result = c.may_hold.ensures held in
    absurd (search (rules, k))

pub returns-then-text-self : goal.returns-then-text-self
returns-then-text-self c = λ passes.
    let least : c.self.inside.least ≡ c.args.self.now.0 = ap (λ p. p.0) c.self.view_is in
    absurd (omega (arith, passes.0, least, c.if-text-self.true, chars_short c.args.text.now c.utf8.text))
