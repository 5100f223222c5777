use Rattle.std.proofs.Common.{◌+◌, arith}
use Rattle.wax_prefilter.specs.inner.Pairs.{NoPairsBefore, lowered}
use Rattle.wax_prefilter.proofs.Pairs.{none_further}
use Rattle.wax_prefilter.proofs.pair.find_first.Goals as goal

pub returns-then-position-lt-LANES-clause-before : goal.returns-then-position-lt-LANES-clause-before
returns-then-position-lt-LANES-clause-before c =
    none_further c.args.in_any_case c.args.pairs.now c.args.bytes.now c.loop-at.at
    c.first_position-position.result c.loop-at.invariant.1 c.first_position-position.ensures.before

pub loop-at-preserved : goal.loop-at-preserved
loop-at-preserved c =
    let before : NoPairsBefore c.args.pairs.now (lowered c.args.in_any_case c.args.bytes.now)
    (c.loop-at.at + c.first_position-position.result) =
    none_further c.args.in_any_case c.args.pairs.now c.args.bytes.now c.loop-at.at
    c.first_position-position.result c.loop-at.invariant.1 c.first_position-position.ensures.before in
    (omega arith, λ k below. before k (omega (arith, below, c.if-position-lt-LANES.false)))
