use Rattle.std.proofs.Common.{◌≡◌, ◌+◌, ◌<◌, ◌++◌, ℕ, List, length, get_or, drop, take, arith, rules}
use Rattle.wax_capture.specs.{Pieces.captured_by, inner.Parts.parts}
use Rattle.wax_capture.specs.{inner.Splits.{AreChosen, IsChosenBy, placed_by}, inner.Trials.lengths_of}
use Rattle.wax_capture.specs.{declared.piece.Piece.Piece, declared.trial.Frame.Frame}
use Rattle.wax_capture.proofs.Placing.{placed_end, taken_placed}
use Rattle.wax_capture.proofs.Taking.{captured_end, chosen_at, chosen_length, taken_captured, taken_within}
use Rattle.wax_capture.proofs.Trying.{length-lengths, lengths_at}
use Rattle.wax_capture.proofs.split.captures_of.Goals as goal

-- what the frame at an index takes, and what is left to those after it
taken_at : (ps : List Piece) (text : List ℕ) (fs : List Frame) (i at : ℕ) (p : Piece) (f : Frame)
    → i < length ps → p ≡ get_or ps i p → AreChosen ps text (lengths_of fs) →
    AreChosen (drop i ps) (drop at text) (drop i (lengths_of fs)) → let n : ℕ = (get_or fs i f).n in
    IsChosenBy p (drop (i + 1) ps) (drop at text) n
    × AreChosen (drop (i + 1) ps) (drop (at + n) text) (drop (i + 1) (lengths_of fs))
taken_at ps text fs i at p f lt is chosen here =
    let all : length (lengths_of fs) ≡ length ps = chosen_length ps text (lengths_of fs) chosen in
    let within : i < length fs = omega (arith, all, length-lengths fs, lt) in
    chosen_at ps text i p lt is at (get_or fs i f).n (lengths_of fs) (omega (arith, all, lt))
    (lengths_at fs i f within) here

pub loop-index-init : goal.loop-index-init
loop-index-init c = record {
  within = omega arith;
  chosen = c.requires;
  captured = λ others h. rw c.in_ok-captures.ensures.items h;
  placed = λ others h. rw c.in_ok-captures.ensures.items h;
  inside = search rules;
}

pub bounds-chosen-index : goal.bounds-chosen-index
bounds-chosen-index c = omega (
  arith,
  chosen_length c.args.pieces.now c.args.text.now (lengths_of c.args.chosen.now) c.requires,
  length-lengths c.args.chosen.now,
  c.loop-index-test.true,
)

pub bounds-chosen-index-in-loop-index : goal.bounds-chosen-index-in-loop-index
bounds-chosen-index-in-loop-index c = omega (
  arith,
  chosen_length c.args.pieces.now c.args.text.now (lengths_of c.args.chosen.now) c.requires,
  length-lengths c.args.chosen.now,
  c.loop-index-test.true,
)

pub loop-index-preserved : goal.loop-index-preserved
loop-index-preserved c =
    let ps = c.args.pieces.now in
    let text : List ℕ = c.args.text.now in
    let fs = c.args.chosen.now in
    let i : ℕ = c.loop-index.index in
    let at : ℕ = c.loop-index.at in
    let n : ℕ = (get_or fs i c.index-chosen-index.result).n in
    let p = c.index-pieces-index.result in
    let lt : i < length ps = c.loop-index-test.true in
    let r = taken_at ps text fs i at p c.index-chosen-index.result lt c.index-pieces-index.is c.requires
    c.loop-index.invariant.chosen in
    let added : parts text c.add_capture.new.captures.items ≡ parts text c.loop-index.captures.items
    ++ captured_by p.capture (take n (drop at text)) = search rules in
    let placed : c.add_capture.new.captures.items ≡ c.loop-index.captures.items
    ++ placed_by p.capture at (take n (drop at text)) = search rules in
    record {
      within = rw c.place_after-at.ensures
          (taken_within ps text i p lt c.index-pieces-index.is at n c.loop-index.invariant.within r.0);
      chosen = rw c.place_after-at.ensures r.1;
      captured = rw c.place_after-at.ensures
          (taken_captured ps text i p lt c.index-pieces-index.is at n c.loop-index.invariant.within r.0
          c.loop-index.captures.items c.add_capture.new.captures.items added c.loop-index.invariant.captured);
      placed = rw c.place_after-at.ensures
          (taken_placed ps text i p lt c.index-pieces-index.is at n r.0 c.loop-index.captures.items
          c.add_capture.new.captures.items placed c.loop-index.invariant.placed);
      inside = c.in_ok-add_capture.ensures.within c.loop-index.invariant.inside;
    }

pub add_capture-requires : goal.add_capture-requires
add_capture-requires c =
    let ps = c.args.pieces.now in
    let text : List ℕ = c.args.text.now in
    let fs = c.args.chosen.now in
    let i : ℕ = c.loop-index.index in
    let at : ℕ = c.loop-index.at in
    let p = c.index-pieces-index.result in
    let lt : i < length ps = c.loop-index-test.true in
    let r = taken_at ps text fs i at p c.index-chosen-index.result lt c.index-pieces-index.is c.requires
    c.loop-index.invariant.chosen in
    taken_within ps text i p lt c.index-pieces-index.is at (get_or fs i c.index-chosen-index.result).n
    c.loop-index.invariant.within r.0

pub place_after-at-requires : goal.place_after-at-requires
place_after-at-requires c =
    let ps = c.args.pieces.now in
    let text : List ℕ = c.args.text.now in
    let fs = c.args.chosen.now in
    let i : ℕ = c.loop-index.index in
    let at : ℕ = c.loop-index.at in
    let p = c.index-pieces-index.result in
    let lt : i < length ps = c.loop-index-test.true in
    let r = taken_at ps text fs i at p c.index-chosen-index.result lt c.index-pieces-index.is c.requires
    c.loop-index.invariant.chosen in
    taken_within ps text i p lt c.index-pieces-index.is at (get_or fs i c.index-chosen-index.result).n
    c.loop-index.invariant.within r.0

pub returns-clause-captured : goal.returns-clause-captured
returns-clause-captured c =
    captured_end c.args.pieces.now c.args.text.now c.loop-index.index c.loop-index.at
    c.loop-index.captures.items (drop c.loop-index.index (lengths_of c.args.chosen.now))
    c.loop-index-test.false c.loop-index.invariant.chosen c.loop-index.invariant.captured

pub returns-clause-placed : goal.returns-clause-placed
returns-clause-placed c =
    placed_end c.args.pieces.now c.args.text.now c.loop-index.index c.loop-index.at
    c.loop-index.captures.items (drop c.loop-index.index (lengths_of c.args.chosen.now))
    c.loop-index-test.false c.loop-index.invariant.chosen c.loop-index.invariant.placed
