use Rattle.std.proofs.Common.{◌≡◌, ℕ, Some, drop, slice_get, arith, rules}
use Rattle.wax_lengths.proofs.Lists.{slice_read}
use Rattle.wax_capture.proofs.Linking.{passed_more}
use Rattle.wax_capture.proofs.piece.next_in_order.Goals as goal

pub loop-index-preserved : goal.loop-index-preserved
loop-index-preserved c =
    let forms = c.args.forms.now in
    let k : ℕ = c.loop-index.index in
    let form = c.index-forms-index.result in
    let is : slice_get forms k ≡ Some form = slice_read forms k form (search rules) (search rules) in
    record {
      further = omega (arith, c.loop-index.invariant.further);
      passed = passed_more forms c.args.from k form (drop c.args.at c.args.text.now) is
          (c.may_take.ensures (search rules)) c.loop-index.invariant.passed;
    }
