use Rattle.std.proofs.Common.{◌≡◌, ◌+◌, ◌*◌, ◌≤◌, ◌∷◌, List, length}
use Rattle.wax_capture.proofs.Rows.{RowTo}
use Rattle.wax_capture.specs.{Pieces.{forms_of, size_of}, inner.Rows.Row, declared.piece.Piece.Piece}
use Rattle.wax_capture.proofs.table.row_before.Given as goal

abbrev pub invariant-loop-at : goal.invariant-loop-at
invariant-loop-at l = record {
  row : (ps : List Piece) → Row ps l.text l.next → RowTo (l.piece ∷ ps) l.text l.row.items l.at;
  count : length l.row.items ≡ l.at;
  above : l.visits ≤ l.fn.visits + size_of (forms_of l.piece.ways) * ((length l.text + 1) * l.at);
  steady : l.fn.visits ≤ l.visits;
}
