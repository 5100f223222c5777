use Rattle.std.proofs.Common.{◌≡◌, ◌+◌, ◌∷◌, [], ◌++◌, ℕ, List, length, arith, rules}
use Rattle.wax_capture.specs.Pieces.{forms_of, size_of}
use Rattle.wax_capture.proofs.{Counting.reads_place, Rows.{row_push, row_whole}}
use Rattle.wax_capture.proofs.table.row_before.Goals as goal

pub loop-at-preserved : goal.loop-at-preserved
loop-at-preserved c =
    let p = c.args.piece.now in
    let text : List ℕ = c.args.text.now in
    let at : ℕ = c.loop-at.at in
    let cell = c.in_ok-cell.cell in
    let same : c.push.new.self.items ≡ c.loop-at.row.items ++ cell ∷ [] = search rules in
    record {
      row = λ ps row. rw same (row_push (p ∷ ps) text c.loop-at.row.items at cell c.loop-at.invariant.count
          (c.loop-at.invariant.row ps row) (c.in_ok-cell.ensures.cell ps row));
      count = search (rules, c.loop-at.invariant.count);
      above = reads_place c.args.visits.now c.loop-at.visits c.choose.new.visits
          (size_of (forms_of p.ways)) (length text + 1) (length text + 1) at
          (omega arith) c.loop-at.invariant.above c.choose.ensures.above;
      steady = omega (arith, c.choose.ensures.steady, c.loop-at.invariant.steady);
    }

pub returns-clause-row : goal.returns-clause-row
returns-clause-row c = λ ps row. row_whole (c.args.piece.now ∷ ps) c.args.text.now c.loop-at.row.items
    c.loop-at.at (search (rules, c.requires)) (c.loop-at.invariant.row ps row)
