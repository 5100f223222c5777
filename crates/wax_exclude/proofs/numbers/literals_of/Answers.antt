use Rattle.std.proofs.{Common.{arith, subst}, lemmas.List.take_all}
use Rattle.wax_exclude.proofs.PassingLines.{line_passes}
use Rattle.wax_exclude.specs.inner.Numbers.{AlternativesPass, LinesPass}
use Rattle.wax_exclude.proofs.numbers.literals_of.Goals as goal

pub loop-line-preserved : goal.loop-line-preserved
loop-line-preserved c =
    let new = c.add_literals.new.literals in
    let adds =
    subst (λ ts. AlternativesPass ts new) c.as_slice.ensures c.in_ok-add_literals.ensures.adds in
    line_passes c.args.lines.now c.loop-line.line-index c.line-item.result c.loop-line.literals new
    c.loop-line-test.true c.line-item.is
    c.in_ok-add_literals.ensures.keeps adds c.loop-line.invariant

pub returns : goal.returns
returns c =
    subst (λ ls. LinesPass ls c.loop-line.literals)
    (take_all c.loop-line.line-index c.args.lines.now (omega (arith, c.loop-line-test.false)))
    c.loop-line.invariant
