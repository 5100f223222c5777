use Rattle.std.proofs.Common.{◌≡◌, ◌+◌, ◌-◌, ◌*◌, ◌<◌, ◌++◌, ◌∷◌, [], ℕ, Some, length, drop, sym, ap, arith}
use Rattle.std.proofs.{Common.{rules, refl, slice_get, subst, ◌∙◌}, lemmas.Option.slice_get_read}
use Rattle.wax_capture.specs.{inner.Rows.Row, inner.Splits.all_sizes}
use Rattle.wax_capture.proofs.Counting.{all_some, reads_fewer, reads_step}
use Rattle.wax_capture.proofs.Rows.{row_next, rows_none, rows_push}
use Rattle.wax_lengths.proofs.Lists.{slice_read}
use Rattle.wax_capture.proofs.table.table.Goals as goal

pub loop-index-init : goal.loop-index-init
loop-index-init c =
    let none = c.in_ok-none.none in
    let same : c.push.new.self.items ≡ [] ++ none ∷ [] = search rules in
    record {
      within = omega arith;
      rows = rw same (rows_none c.args.pieces.now c.args.text.now none c.in_ok-none.ensures.row
          c.in_ok-none.ensures.len);
      count = search rules;
      above = omega arith;
      steady = omega arith;
    }

pub row_before-requires : goal.row_before-requires
row_before-requires c =
    let ps = c.args.pieces.now in
    let rows = c.loop-index.rows.items in
    let next = c.index-next.result.now in
    let i : ℕ = c.loop-index.index - 1 in
    let j : ℕ = length ps - 1 - i in
    let lt : i < length ps = omega (arith, c.loop-index.invariant.within, c.loop-index-test.true) in
    let at : slice_get rows j ≡ Some next = slice_read rows j next
    (omega (arith, c.loop-index.invariant.count, lt, c.loop-index-test.true)) (search rules) in
    ap length c.deref.ensures.value ∙ (c.loop-index.invariant.rows j next at).1

pub loop-index-preserved : goal.loop-index-preserved
loop-index-preserved c =
    let ps = c.args.pieces.now in
    let text = c.args.text.now in
    let i : ℕ = c.loop-index.index - 1 in
    let p = c.index-pieces-index.result in
    let rows = c.loop-index.rows.items in
    let count : length rows + i ≡ length ps =
    omega (arith, c.loop-index.invariant.count, c.loop-index-test.true) in
    let lt : i < length ps = omega (arith, c.loop-index.invariant.within, c.loop-index-test.true) in
    let j : ℕ = length ps - 1 - i in
    let last : j + 1 ≡ length rows = omega (arith, count, lt) in
    let next = c.index-next.result.now in
    let at : slice_get rows j ≡ Some next =
    slice_get_read rows (length rows) j next refl (omega (arith, last)) (search rules) in
    let r = row_next ps text rows i j p next count lt c.index-pieces-index.is
    c.loop-index.invariant.rows last at in
    let row : Row (p ∷ drop (i + 1) ps) text c.in_ok-row.row.items =
    c.in_ok-row.ensures.row (drop (i + 1) ps) (rw c.deref.ensures.value r.0.0) in
    let same : c.push-in-loop-index.new.self.items ≡ rows ++ c.in_ok-row.row ∷ [] = search rules in
    record {
      within = omega (arith, lt);
      rows = rw same (rows_push ps text rows i c.in_ok-row.row count c.loop-index.invariant.rows
          (subst (λ z. Row z text c.in_ok-row.row.items) (sym r.1) row) c.in_ok-row.ensures.len);
      count = search (rules, count);
      above = reads_step ps i c.loop-index.index p (omega (arith, c.loop-index-test.true)) lt
          c.index-pieces-index.is c.args.visits.now c.loop-index.visits c.row_before.new.visits
          ((length text + 1) * (length text + 1)) c.loop-index.invariant.above c.row_before.ensures.above;
      steady = omega (arith, c.row_before.ensures.steady, c.loop-index.invariant.steady);
    }

pub returns-in_err-row-clause-above : goal.returns-in_err-row-clause-above
returns-in_err-row-clause-above c =
    let ps = c.args.pieces.now in
    let i : ℕ = c.loop-index.index - 1 in
    let n : ℕ = (length c.args.text.now + 1) * (length c.args.text.now + 1) in
    reads_fewer c.args.visits.now c.row_before.new.visits (all_sizes (drop i ps))
    (all_sizes ps) n (all_some ps i)
    (reads_step ps i c.loop-index.index c.index-pieces-index.result (omega (arith, c.loop-index-test.true))
    (omega (arith, c.loop-index.invariant.within, c.loop-index-test.true)) c.index-pieces-index.is
    c.args.visits.now c.loop-index.visits c.row_before.new.visits n c.loop-index.invariant.above
    c.row_before.ensures.above)

pub returns-in_err-push-2-clause-above : goal.returns-in_err-push-2-clause-above
returns-in_err-push-2-clause-above c =
    let ps = c.args.pieces.now in
    let i : ℕ = c.loop-index.index - 1 in
    let n : ℕ = (length c.args.text.now + 1) * (length c.args.text.now + 1) in
    reads_fewer c.args.visits.now c.row_before.new.visits (all_sizes (drop i ps))
    (all_sizes ps) n (all_some ps i)
    (reads_step ps i c.loop-index.index c.index-pieces-index.result (omega (arith, c.loop-index-test.true))
    (omega (arith, c.loop-index.invariant.within, c.loop-index-test.true)) c.index-pieces-index.is
    c.args.visits.now c.loop-index.visits c.row_before.new.visits n c.loop-index.invariant.above
    c.row_before.ensures.above)
