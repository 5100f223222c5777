use Rattle.std.proofs.Common.{◌≡◌, ◌+◌, ◌<◌, ◌≤◌, ◌++◌, ◌∷◌, [], ℕ, List, length, get_or, drop, ap, sym, ◌∙◌}
use Rattle.std.proofs.{Common.{arith, rules}, lemmas.Option.get_or_from_slice_get}
use Rattle.wax_lengths.proofs.Lists.{slice_got}
use Rattle.wax_capture.specs.{inner.Rows.IsCell, inner.Splits.IsChosenBy, inner.Trials.lengths_of}
use Rattle.wax_capture.specs.declared.trial.Frame.{Frame}
use Rattle.wax_capture.proofs.Trying.{lengths_push}
use Rattle.wax_capture.proofs.Taking.{cell_chosen, cell_read, cell_some, lengths_end, row_long, taken_lengths}
use Rattle.wax_capture.proofs.Taking.{taken_splits, taken_within, whole_fails, whole_splits}
use Rattle.wax_capture.proofs.table.split_by_table.Goals as goal

pub returns-then-is_none-clause-chosen : goal.returns-then-is_none-clause-chosen
returns-then-is_none-clause-chosen c =
    let ps = c.args.pieces.now in
    let text : List ℕ = c.args.text.now in
    let cell : IsCell ps text c.index-2.result.now = cell_read ps text c.in_ok-rows.rows.items 0 0
    c.index.result.now c.index-2.result.now c.in_ok-rows.ensures.len c.in_ok-rows.ensures.rows
    (omega arith) (search rules) c.index-2.ensures (omega arith) in
    whole_fails ps text c.index-2.result.now (search rules) cell

pub loop-index-init : goal.loop-index-init
loop-index-init c =
    let ps = c.args.pieces.now in
    let text : List ℕ = c.args.text.now in
    let cell : IsCell ps text c.index-2.result.now = cell_read ps text c.in_ok-rows.rows.items 0 0
    c.index.result.now c.index-2.result.now c.in_ok-rows.ensures.len c.in_ok-rows.ensures.rows
    (omega arith) (search rules) c.index-2.ensures (omega arith) in
    record {
      within = omega arith;
      splits = whole_splits ps text c.index-2.result.now (search rules) cell;
      chosen = λ others h. rw c.in_ok-chosen.ensures.items h;
    }

pub index-requires-in-loop-index-2 : goal.index-requires-in-loop-index-2
index-requires-in-loop-index-2 c =
    let ps = c.args.pieces.now in
    let text : List ℕ = c.args.text.now in
    let i : ℕ = c.loop-index.index in
    let lt : i < length ps = c.loop-index-test.true in
    let long : length c.index-in-loop-index.result.now.items ≡ length text + 1 =
    row_long ps text c.in_ok-rows.rows.items i c.index-in-loop-index.result.now c.in_ok-rows.ensures.len
    c.in_ok-rows.ensures.rows (omega (arith, lt)) c.index-in-loop-index.ensures in
    search (rules, long)

pub returns-in_default-clause-chosen : goal.returns-in_default-clause-chosen
returns-in_default-clause-chosen c =
    let ps = c.args.pieces.now in
    let text : List ℕ = c.args.text.now in
    let i : ℕ = c.loop-index.index in
    let r = c.index-in-loop-index-2.result.now in
    let lt : i < length ps = c.loop-index-test.true in
    let cell : IsCell (drop i ps) (drop c.loop-index.at text) r =
    cell_read ps text c.in_ok-rows.rows.items i c.loop-index.at c.index-in-loop-index.result.now r
    c.in_ok-rows.ensures.len c.in_ok-rows.ensures.rows (omega (arith, lt)) c.index-in-loop-index.ensures
    c.index-in-loop-index-2.ensures c.loop-index.invariant.within in
    λ _. cell_some (drop i ps) (drop c.loop-index.at text) r c.in_default.not-Some cell
    c.loop-index.invariant.splits

pub loop-index-preserved : goal.loop-index-preserved
loop-index-preserved c =
    let ps = c.args.pieces.now in
    let text : List ℕ = c.args.text.now in
    let i : ℕ = c.loop-index.index in
    let at : ℕ = c.loop-index.at in
    let n : ℕ = c.in-Some.n in
    let lt : i < length ps = c.loop-index-test.true in
    let r = c.index-in-loop-index-2.result.now in
    let p = slice_got ps i lt in
    let is : p.0 ≡ get_or ps i p.0 = sym (get_or_from_slice_get ps i p.0 p.0 p.1) in
    let cell : IsCell (drop i ps) (drop at text) r =
    cell_read ps text c.in_ok-rows.rows.items i at c.index-in-loop-index.result.now r
    c.in_ok-rows.ensures.len c.in_ok-rows.ensures.rows (omega (arith, lt)) c.index-in-loop-index.ensures
    c.index-in-loop-index-2.ensures c.loop-index.invariant.within in
    let chosen : IsChosenBy p.0 (drop (i + 1) ps) (drop at text) n =
    cell_chosen ps text i p.0 lt is at n r c.in-Some.is cell in
    let f : Frame = c.new.result in
    let pushed : c.push.new.self.items ≡ c.loop-index.chosen.items ++ f ∷ [] = search rules in
    let same : lengths_of c.push.new.self.items ≡ lengths_of c.loop-index.chosen.items ++ n ∷ [] =
    ap lengths_of pushed ∙ lengths_push c.loop-index.chosen.items f
    ∙ ap (λ k. lengths_of c.loop-index.chosen.items ++ k ∷ []) c.new.ensures.takes in
    record {
      within = rw c.place_after-at.ensures
          (taken_within ps text i p.0 lt is at n c.loop-index.invariant.within chosen);
      splits = rw c.place_after-at.ensures
          (taken_splits ps text i p.0 lt is at n c.loop-index.invariant.within chosen);
      chosen = rw (same, c.place_after-at.ensures)
          (taken_lengths ps text i p.0 lt is at n c.loop-index.invariant.within chosen
          (lengths_of c.loop-index.chosen.items) c.loop-index.invariant.chosen);
    }

pub place_after-at-requires : goal.place_after-at-requires
place_after-at-requires c =
    let ps = c.args.pieces.now in
    let text : List ℕ = c.args.text.now in
    let i : ℕ = c.loop-index.index in
    let at : ℕ = c.loop-index.at in
    let n : ℕ = c.in-Some.n in
    let lt : i < length ps = c.loop-index-test.true in
    let r = c.index-in-loop-index-2.result.now in
    let p = slice_got ps i lt in
    let is : p.0 ≡ get_or ps i p.0 = sym (get_or_from_slice_get ps i p.0 p.0 p.1) in
    let cell : IsCell (drop i ps) (drop at text) r =
    cell_read ps text c.in_ok-rows.rows.items i at c.index-in-loop-index.result.now r
    c.in_ok-rows.ensures.len c.in_ok-rows.ensures.rows (omega (arith, lt)) c.index-in-loop-index.ensures
    c.index-in-loop-index-2.ensures c.loop-index.invariant.within in
    let chosen : IsChosenBy p.0 (drop (i + 1) ps) (drop at text) n =
    cell_chosen ps text i p.0 lt is at n r c.in-Some.is cell in
    let within : at + n ≤ length text =
    taken_within ps text i p.0 lt is at n c.loop-index.invariant.within chosen in
    within

pub returns-clause-chosen : goal.returns-clause-chosen
returns-clause-chosen c = lengths_end c.args.pieces.now c.args.text.now c.loop-index.index c.loop-index.at
    (lengths_of c.loop-index.chosen.items) c.loop-index-test.false c.loop-index.invariant.splits
    c.loop-index.invariant.chosen
