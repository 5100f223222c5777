use Rattle.std.proofs.Common.{◌+◌, subst, sym}
use Rattle.wax_program.proofs.Sweeping.{IsSwept, swept_all, swept_gap, swept_more, swept_none}
use Rattle.wax_program.proofs.ranges.least_outside.Goals as goal

pub loop-first-init : goal.loop-first-init
loop-first-init c = swept_none c.args.ranges.now

pub loop-first-preserved : goal.loop-first-preserved
loop-first-preserved c =
    let i = c.loop-first.first-index in
    subst (IsSwept c.args.ranges.now (i + 1)) (sym c.max-least.ensures)
    (swept_more c.args.ranges.now i c.loop-first.least c.loop-first.invariant c.loop-first-test.true
    c.if-least-first.false)

pub returns-then-least-first : goal.returns-then-least-first
returns-then-least-first c =
    swept_gap c.args.ranges.now c.loop-first.first-index c.loop-first.least c.loop-first.invariant c.requires
    c.if-least-first.true

pub returns : goal.returns
returns c =
    swept_all c.args.ranges.now c.loop-first.first-index c.loop-first.least c.loop-first.invariant
    c.loop-first-test.false
