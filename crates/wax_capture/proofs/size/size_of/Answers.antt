use Rattle.std.proofs.Common.{arith}
use Rattle.wax_capture.proofs.Counting.{size_of_more}
use Rattle.wax_capture.proofs.size.size_of.Goals as goal

pub loop-index-preserved : goal.loop-index-preserved
loop-index-preserved c =
    let forms = c.args.forms.now in
    omega (
      arith,
      c.saturating_add-size.ensures,
      c.size.ensures,
      c.loop-index.invariant,
      size_of_more forms c.loop-index.index c.index-forms-index.result c.loop-index-test.true
          c.index-forms-index.is,
    )
