use Rattle.std.proofs.Common.{◌+◌, ◌-◌, sym, ◌∙◌, subst, arith}
use lib.Count.{count_leading_zeros}
use Rattle.wax_program.specs.inner.Slashes.{LastNameAt}
use Rattle.wax_program.proofs.Slashes.{last_here, none_here}
use Rattle.wax_program.proofs.last.last_name_at.Goals as goal

pub returns-then-found-ne0 : goal.returns-then-found-ne0
returns-then-found-ne0 c =
    let end = c.loop-end.end in
    subst (λ mask. LastNameAt (end + 32 - count_leading_zeros 64 mask) c.args.bytes.now)
    (sym c.slashes-found.ensures)
    (last_here c.args.bytes.now end c.loop-end-test.true c.loop-end.invariant.0 c.loop-end.invariant.1
    (omega (arith, c.slashes-found.ensures, c.if-found-ne0.true)))

pub loop-end-preserved : goal.loop-end-preserved
loop-end-preserved c = (
  omega (arith, c.loop-end.invariant.0),
  none_here c.args.bytes.now c.loop-end.end c.loop-end-test.true c.loop-end.invariant.0 c.loop-end.invariant.1
      (sym c.slashes-found.ensures ∙ c.if-found-ne0.false),
)
