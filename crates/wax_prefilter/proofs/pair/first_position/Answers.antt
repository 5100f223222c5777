use Rattle.std.proofs.Common.{◌≡◌, ◌+◌, ◌≤◌, drop, get_or, length, inl, inr, sym, ap, ◌∙◌, subst, arith}
use Rattle.std.proofs.{lemmas.Bool.cases_lt, lemmas.List.get_or_default}
use Rattle.wax_prefilter.specs.{declared.pair.Pair.Pair, inner.Pairs.{NoPairBefore, ZeroWhere, lowered}}
use lib.Lanes.{chunk}
use Rattle.wax_prefilter.proofs.Lowered.{length_lowered, zero_lowered}
use Rattle.wax_prefilter.proofs.Marks.{before_lane, few_lanes, length_lesser, lesser_zero}
use Rattle.wax_prefilter.proofs.pair.first_position.Goals as goal

pub loop-pair-preserved : goal.loop-pair-preserved
loop-pair-preserved c =
    let pairs = c.args.pairs.now in
    let bytes = c.args.bytes.now in
    let i = c.loop-pair.pair-index in
    let this : Pair = get_or pairs i (record { first = 0; last = 0; distance = 0 }) in
    let wide : length c.differences.result ≡ 32 = c.differences.ensures.lanes in
    let low = lowered c.args.in_any_case in
    let marked : ZeroWhere this (low (chunk 0 32 bytes))
    (low (chunk 0 32 (drop this.distance bytes))) c.differences.result = c.differences.ensures.zero in (
      length_lesser c.loop-pair.least c.differences.result c.loop-pair.invariant.0 wide,
      λ k pair below is j lt first last. lesser_zero c.loop-pair.least c.differences.result j
          c.loop-pair.invariant.0 wide lt (elim (cases_lt k i) [
            | inl less ↦ inl (c.loop-pair.invariant.1 k pair less is j lt first last)
            | inr from ↦
                let here : k ≡ i = omega (arith, below, from) in
                let same : this ≡ pair =
                sym (get_or_default pairs i pair (record { first = 0; last = 0; distance = 0 })
                c.loop-pair-test.true) ∙ ap (λ n. get_or pairs n pair) (sym here) ∙ is in
                inr (subst (λ p. ZeroWhere p (low (chunk 0 32 bytes))
                (low (chunk 0 32 (drop p.distance bytes))) c.differences.result) same marked j lt first last)
          ]),
    )

pub returns-clause-before : goal.returns-clause-before
returns-clause-before c = λ k lt (i, pair, below, is, stands).
    let bytes = c.args.bytes.now in
    let low = lowered c.args.in_any_case in
    let room : pair.distance + 32 ≤ length (low bytes) =
    omega (
      arith,
      subst (λ p. p.distance + 32 ≤ length bytes) is (c.requires.room i pair below),
      length_lowered c.args.in_any_case bytes,
    ) in
    subst (NoPairBefore pair (low bytes)) (omega arith)
    (before_lane pair (low bytes) 0 (omega (arith, room)) (λ n none. absurd (omega (arith, none)))
    c.loop-pair.least c.first_zero.result c.loop-pair.invariant.0
    (zero_lowered c.args.in_any_case pair bytes 0 c.loop-pair.least
    (c.loop-pair.invariant.1 i pair (omega (arith, below, c.loop-pair-test.false)) is)) c.first_zero.ensures)
    k lt stands

pub returns-clause-inside : goal.returns-clause-inside
returns-clause-inside c =
    omega (arith, c.first_zero.ensures, few_lanes c.loop-pair.least c.loop-pair.invariant.0)
