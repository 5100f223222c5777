use Rattle.std.proofs.Common.{◌≡◌, ◌+◌, ℕ, Some, length, slice_get, take, drop, arith, rules}
use Rattle.wax_capture.specs.Pieces.{forms_of, size_of}
use Rattle.wax_capture.proofs.Choosing.{chosen, none_at_all, none_more}
use Rattle.wax_capture.proofs.Counting.{reads_fewer, reads_way, size_of_some}
use Rattle.wax_lengths.proofs.Lists.{slice_read}
use Rattle.wax_capture.proofs.choice.choose.Goals as goal

pub returns-in-Some-clause-cell : goal.returns-in-Some-clause-cell
returns-in-Some-clause-cell c = λ ps row.
    let p = c.args.piece.now in
    let k : ℕ = c.loop-index.index in
    let form = c.index-forms-index.result in
    let at : slice_get (forms_of p.ways) k ≡ Some form =
    slice_read (forms_of p.ways) k form (search rules) (search rules) in
    chosen p ps c.args.text.now c.args.at c.args.next.now c.requires.within row k form at
    (c.loop-index.invariant.none ps row) c.in-Some.n (search rules) (search rules)

pub loop-index-preserved : goal.loop-index-preserved
loop-index-preserved c =
    let p = c.args.piece.now in
    let k : ℕ = c.loop-index.index in
    let form = c.index-forms-index.result in
    let at : slice_get (forms_of p.ways) k ≡ Some form =
    slice_read (forms_of p.ways) k form (search rules) (search rules) in
    record {
      none = λ ps row. none_more p ps c.args.text.now c.args.at c.args.next.now c.requires.within row k form
          at (c.loop-index.invariant.none ps row) (search rules);
      above = reads_way (forms_of p.ways) k form (search rules)
          (search rules) c.args.visits.now c.loop-index.visits c.choose_by.new.visits
          (length c.args.text.now + 1) c.loop-index.invariant.above c.choose_by.ensures.above;
      steady = omega (arith, c.choose_by.ensures.steady, c.loop-index.invariant.steady);
    }

pub returns-clause-cell : goal.returns-clause-cell
returns-clause-cell c = λ ps row. none_at_all c.args.piece.now ps (drop c.args.at c.args.text.now)
    c.loop-index.index (search rules) (c.loop-index.invariant.none ps row)

pub returns-in-Some-clause-above : goal.returns-in-Some-clause-above
returns-in-Some-clause-above c =
    let forms = forms_of c.args.piece.now.ways in
    let k : ℕ = c.loop-index.index in
    reads_fewer c.args.visits.now c.choose_by.new.visits (size_of (take (k + 1) forms)) (size_of forms)
    (length c.args.text.now + 1) (size_of_some forms (k + 1))
    (reads_way forms k c.index-forms-index.result (search rules)
    (search rules) c.args.visits.now c.loop-index.visits c.choose_by.new.visits
    (length c.args.text.now + 1) c.loop-index.invariant.above c.choose_by.ensures.above)

pub returns-in_err-n-clause-above : goal.returns-in_err-n-clause-above
returns-in_err-n-clause-above c =
    let forms = forms_of c.args.piece.now.ways in
    let k : ℕ = c.loop-index.index in
    reads_fewer c.args.visits.now c.choose_by.new.visits (size_of (take (k + 1) forms)) (size_of forms)
    (length c.args.text.now + 1) (size_of_some forms (k + 1))
    (reads_way forms k c.index-forms-index.result (search rules)
    (search rules) c.args.visits.now c.loop-index.visits c.choose_by.new.visits
    (length c.args.text.now + 1) c.loop-index.invariant.above c.choose_by.ensures.above)
