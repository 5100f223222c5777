use Rattle.std.proofs.Common.{◌≤◌, rules, arith}
use Rattle.wax_capture.specs.Pieces.{forms_of, size_of}
use Rattle.wax_capture.proofs.Counting.{all_taken}
use Rattle.wax_capture.proofs.size.size_of_all.Goals as goal

pub loop-index-preserved : goal.loop-index-preserved
loop-index-preserved c =
    let ps = c.args.pieces.now in
    let few : c.size_of.result ≤ size_of (forms_of c.index-pieces-index.result.ways) = search rules in
    omega (
      arith,
      c.saturating_add-size.ensures,
      few,
      c.loop-index.invariant,
      all_taken ps c.loop-index.index c.index-pieces-index.result c.loop-index-test.true
          c.index-pieces-index.is,
    )
