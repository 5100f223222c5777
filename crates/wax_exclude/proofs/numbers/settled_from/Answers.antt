use Rattle.std.proofs.Common.{◌∙◌, ◌-◌, ap, arith, sym}
use Rattle.wax_exclude.proofs.NumberedLines.{settled_after, settled_at_start}
use Rattle.wax_exclude.proofs.numbers.settled_from.Goals as goal

pub returns-then-not-lines-settled : goal.returns-then-not-lines-settled
returns-then-not-lines-settled c =
    let line = c.index-lines-settled in
    settled_after c.args.lines.now c.loop-settled.settled (c.loop-settled.settled - 1) line.result
    c.loop-settled.invariant.0
    (omega (arith, c.loop-settled-test.true)) (sym line.is)
    (ap (λ l. l.ignores) line.is ∙ c.if-not-lines-settled.true) c.loop-settled.invariant.1

pub returns : goal.returns
returns c = settled_at_start c.args.lines.now c.loop-settled.settled
    (omega (arith, c.loop-settled-test.false)) c.loop-settled.invariant.1
