use Rattle.std.proofs.Common.{sym, ap, ◌∙◌, arith}
use lib.Count.{count_trailing_zeros}
use Rattle.wax_prefilter.proofs.Marks.{zero_none, zero_some}
use Rattle.wax_prefilter.proofs.pair.first_zero.Goals as goal

pub returns-then-zeros-eq0 : goal.returns-then-zeros-eq0
returns-then-zeros-eq0 c =
    zero_none c.args.lanes c.fits-lanes.0 (sym c.zeros-zeros.ensures ∙ c.if-zeros-eq0.true)

pub returns-else-zeros-eq0 : goal.returns-else-zeros-eq0
returns-else-zeros-eq0 c =
    ap (count_trailing_zeros 64) c.zeros-zeros.ensures
    ∙ zero_some c.args.lanes c.fits-lanes.0 (omega (arith, c.zeros-zeros.ensures, c.if-zeros-eq0.false))
