use Rattle.std.proofs.Common.{◌≡◌, ◌+◌, arith, refl}
use Rattle.wax_program.proofs.Marks.{range_begins, range_nothing, range_step, range_whole}
use Rattle.wax_program.proofs.ends.push_range.Goals as goal

pub returns-then-low-high : goal.returns-then-low-high
returns-then-low-high c = range_nothing c.args.low c.args.high c.args.numbers.now.items c.if-low-high.true

pub loop-number-init : goal.loop-number-init
loop-number-init c = range_begins c.args.low c.args.numbers.now.items

pub loop-number-preserved : goal.loop-number-preserved
loop-number-preserved c =
    rw c.in_ok-push.ensures.items
    (range_step c.args.low c.loop-number.number c.args.numbers.now.items c.loop-number.numbers.items
    (omega (arith, c.loop-number.auto.number)) c.loop-number.invariant)

pub returns : goal.returns
returns c =
    let end : c.loop-number.number ≡ c.args.high =
    omega (arith, c.loop-number-test.false, c.loop-number.auto.number-end) in
    rw (c.in_ok-push-2.ensures.items, ← end)
    (range_whole c.args.low c.loop-number.number (c.loop-number.number + 1) c.args.numbers.now.items _ refl
    (range_step c.args.low c.loop-number.number c.args.numbers.now.items c.loop-number.numbers.items
    (omega (arith, end, c.if-low-high.false)) c.loop-number.invariant))
