use Rattle.std.proofs.Common.{◌≡◌, get_or, subst}
use Rattle.wax_prefilter.specs.inner.Pairs.{lowered}
use Rattle.wax_prefilter.proofs.Marks.{lane_with_bit, length_differences, length_with_bit, with_bit}
use Rattle.wax_prefilter.proofs.Marks.{zero_where}
use Rattle.wax_prefilter.proofs.pair.Pair.differences.Goals as goal

pub returns-clause-lanes : goal.returns-clause-lanes
returns-clause-lanes c =
    length_differences c.args.self c.args.front c.args.back c.fits-front.0 c.fits-back.0

pub returns-clause-zero : goal.returns-clause-zero
returns-clause-zero c = λ k lt first last.
    let pair = c.args.self in
    let case = c.if-in_any_case.false in
    zero_where pair c.args.front c.args.back c.fits-front.0 c.fits-back.0 k lt
    (subst (λ z. get_or (lowered z c.args.front) k 0 ≡ pair.first) case first)
    (subst (λ z. get_or (lowered z c.args.back) k 0 ≡ pair.last) case last)

pub returns-then-in_any_case-clause-lanes : goal.returns-then-in_any_case-clause-lanes
returns-then-in_any_case-clause-lanes c =
    length_differences c.args.self (with_bit c.args.front c.case_bit.result)
    (with_bit c.args.back c.case_bit-then-in_any_case.result)
    (length_with_bit c.args.front c.case_bit.result c.fits-front.0)
    (length_with_bit c.args.back c.case_bit-then-in_any_case.result c.fits-back.0)

pub returns-then-in_any_case-clause-zero : goal.returns-then-in_any_case-clause-zero
returns-then-in_any_case-clause-zero c = λ k lt first last.
    let pair = c.args.self in
    let front = c.fits-front in
    let back = c.fits-back in
    let bit = c.case_bit in
    let other = c.case_bit-then-in_any_case in
    let case = c.if-in_any_case.true in
    zero_where pair (with_bit c.args.front bit.result) (with_bit c.args.back other.result)
    (length_with_bit c.args.front bit.result front.0) (length_with_bit c.args.back other.result back.0) k lt
    (lane_with_bit c.args.front pair.first bit.result k front.0 front.1 bit.ensures lt
    (subst (λ z. get_or (lowered z c.args.front) k 0 ≡ pair.first) case first))
    (lane_with_bit c.args.back pair.last other.result k back.0 back.1 other.ensures lt
    (subst (λ z. get_or (lowered z c.args.back) k 0 ≡ pair.last) case last))
