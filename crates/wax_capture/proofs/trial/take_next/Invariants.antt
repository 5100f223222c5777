use Rattle.std.proofs.Common.{◌≡◌, true, [], ◌+◌, ◌-◌, ◌*◌, ◌≤◌, ℕ, List, length, take, drop}
use Rattle.wax_capture.specs.{Pieces.{forms_of, size_of}, inner.Trials.IsOpen, declared.piece.Piece.Piece}
use Rattle.wax_lengths.specs.Spans.{looks}
use Rattle.wax_capture.proofs.Trying.{NoneTo}
use Rattle.wax_capture.proofs.trial.take_next.Given as goal

abbrev pub invariant-loop-index : goal.invariant-loop-index
invariant-loop-index l = record {
  at : l.frame.at ≡ l.fn.frame.at;
  none : (ps : List Piece) → (l.is_last ≡ true → ps ≡ []) → IsOpen l.piece ps
      (drop l.fn.frame.at l.text) l.fn.frame → NoneTo l.piece ps (drop l.fn.frame.at l.text) l.index;
  end : l.frame.at + l.frame.span.end ≤ length l.text + 1;
  few : (most : ℕ) → looks l.fn.frame.span ≤ most → size_of (forms_of l.piece.ways) * (length l.text + 1)
      ≤ most → looks l.frame.span ≤ most;
  above : l.visits ≤ l.fn.visits + looks l.fn.frame.span
      + size_of (take l.index (forms_of l.piece.ways)) * (length l.text + 1);
  steady : l.fn.visits ≤ l.visits;
}

abbrev pub decreases-loop-index : goal.decreases-loop-index
decreases-loop-index l = length (forms_of l.piece.ways) - l.index
