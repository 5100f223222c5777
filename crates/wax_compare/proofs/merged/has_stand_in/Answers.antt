use Rattle.std.proofs.Common.{◌≡◌, ◌∙◌, arith, inl, inr, slice_index, subst, sym, true≢false}
use Rattle.std.proofs.{lemmas.Bool.cases_lt, lemmas.List.get_or_default}
use Rattle.wax_compare.specs.Cuts.{StandsFor}
use Rattle.wax_compare.proofs.Merging.{stands_digest}
use Rattle.wax_compare.proofs.merged.has_stand_in.Goals as goal

pub loop-index-preserved-then-digests-index : goal.loop-index-preserved-then-digests-index
loop-index-preserved-then-digests-index c = λ k lt stands.
    let code = c.args.first.now.0 in
    let other = c.args.second.now.0 in
    let kept = c.args.kept.now in
    let digests = c.args.digests.now in
    let index = c.loop-index.index in
    elim (cases_lt k index) [
      | inl less ↦ c.loop-index.invariant k less stands
      | inr past ↦ (let same : k ≡ index = omega (arith, lt, past) in
          let here : StandsFor code other (slice_index kept index) c.args.letter =
          subst (λ n. StandsFor code other (slice_index kept n) c.args.letter) same stands in
          c.if-digests-index.true (sym (stands_digest code other (slice_index kept index) c.args.letter
          c.args.digest (slice_index digests index) here c.requires.digest
          (c.requires.kept.of index c.loop-index-test.true))))
    ]

pub loop-index-preserved : goal.loop-index-preserved
loop-index-preserved c = λ k lt stands.
    let code = c.args.first.now.0 in
    let other = c.args.second.now.0 in
    let kept = c.args.kept.now in
    let index = c.loop-index.index in
    elim (cases_lt k index) [
      | inl less ↦ c.loop-index.invariant k less stands
      | inr past ↦ (let same : k ≡ index = omega (arith, lt, past) in
          let here : StandsFor code other (slice_index kept index) c.args.letter =
          subst (λ n. StandsFor code other (slice_index kept n) c.args.letter) same stands in
          let is : c.index-kept-index.result ≡ slice_index kept index = c.index-kept-index.is
          ∙ get_or_default kept index c.index-kept-index.result 0 c.loop-index-test.true in
          true≢false (sym (c.stands_for.ensures.1
          (subst (λ d. StandsFor code other d c.args.letter) (sym is) here)) ∙ c.if-stands_for.false))
    ]

pub returns : goal.returns
returns c = (
  (λ e. absurd (true≢false (sym e))),
  (λ h. (let kept = c.args.kept.now in
      let is : slice_index kept h.1.0 ≡ h.0 = get_or_default kept h.1.0 0 h.0 h.1.1 ∙ h.1.2 in
      absurd (c.loop-index.invariant h.1.0 (omega (arith, h.1.1, c.loop-index-test.false))
      (subst (λ d. StandsFor c.args.first.now.0 c.args.second.now.0 d c.args.letter) (sym is) h.2)))),
)
