use Rattle.std.proofs.Common.{◌+◌, ◌≤◌, drop, length, subst, arith}
use Rattle.wax_prefilter.specs.inner.Pairs.{NoPairBefore, ZeroWhere, lowered}
use lib.Lanes.{chunk}
use Rattle.wax_prefilter.proofs.{Lowered.{length_lowered, zero_lowered}, Marks.before_lane, Pairs.is_drop}
use Rattle.wax_prefilter.proofs.pair.Pair.find.Goals as goal

pub returns-then-lane-lt-LANES-clause-before : goal.returns-then-lane-lt-LANES-clause-before
returns-then-lane-lt-LANES-clause-before c =
    let pair = c.args.self in
    let bytes = c.args.bytes.now in
    let at = c.loop-at.at in
    let (_, _, rest, long) = c.in-Some.ensures.lookup.0 in
    let low = lowered c.args.in_any_case in
    let marked : ZeroWhere pair (chunk at 32 (low bytes))
    (chunk at 32 (drop pair.distance (low bytes))) c.differences.result =
    zero_lowered c.args.in_any_case pair bytes at c.differences.result
    (subst (λ r. ZeroWhere pair (low (chunk at 32 bytes)) (low (chunk at 32 r)) c.differences.result)
    (is_drop pair.distance bytes _ rest) c.differences.ensures.zero) in
    let room : at + pair.distance + 32 ≤ length (low bytes) =
    omega (arith, long, length_lowered c.args.in_any_case bytes) in
    before_lane pair (low bytes) at room c.loop-at.invariant.1 c.differences.result
    c.first_zero-lane.result c.differences.ensures.lanes marked c.first_zero-lane.ensures

pub loop-at-preserved : goal.loop-at-preserved
loop-at-preserved c =
    let pair = c.args.self in
    let bytes = c.args.bytes.now in
    let at = c.loop-at.at in
    let (_, _, rest, long) = c.in-Some.ensures.lookup.0 in
    let low = lowered c.args.in_any_case in
    let marked : ZeroWhere pair (chunk at 32 (low bytes))
    (chunk at 32 (drop pair.distance (low bytes))) c.differences.result =
    zero_lowered c.args.in_any_case pair bytes at c.differences.result
    (subst (λ r. ZeroWhere pair (low (chunk at 32 bytes)) (low (chunk at 32 r)) c.differences.result)
    (is_drop pair.distance bytes _ rest) c.differences.ensures.zero) in
    let room : at + pair.distance + 32 ≤ length (low bytes) =
    omega (arith, long, length_lowered c.args.in_any_case bytes) in
    let before : NoPairBefore pair (low bytes) (at + c.first_zero-lane.result) =
    before_lane pair (low bytes) at room c.loop-at.invariant.1 c.differences.result
    c.first_zero-lane.result c.differences.ensures.lanes marked c.first_zero-lane.ensures in
    (omega arith, λ k below. before k (omega (arith, below, c.if-lane-lt-LANES.false)))
