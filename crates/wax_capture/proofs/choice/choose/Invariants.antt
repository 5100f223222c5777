use Rattle.std.proofs.Common.{ℕ, ◌+◌, ◌*◌, ◌<◌, ◌≤◌, List, length, take, drop}
use Rattle.wax_capture.specs.{Pieces.{forms_of, size_of}, inner.Rows.Row, inner.Splits.FitsBy}
use Rattle.wax_capture.specs.declared.piece.Piece.{Piece}
use Rattle.wax_capture.proofs.choice.choose.Given as goal

abbrev pub invariant-loop-index : goal.invariant-loop-index
invariant-loop-index l = record {
  none : (ps : List Piece) → Row ps l.text l.next → (k m : ℕ) → k < l.index
      → FitsBy l.piece ps (drop l.at l.text) k m → ⊥;
  above : l.visits ≤ l.fn.visits + size_of (take l.index (forms_of l.piece.ways)) * (length l.text + 1);
  steady : l.fn.visits ≤ l.visits;
}
