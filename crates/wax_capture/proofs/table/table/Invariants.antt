use Rattle.std.proofs.Common.{◌≡◌, ◌+◌, ◌*◌, ◌≤◌, length, drop}
use Rattle.wax_capture.specs.{inner.Rows.ArePieceRows, inner.Splits.all_sizes}
use Rattle.wax_capture.proofs.table.table.Given as goal

abbrev pub invariant-loop-index : goal.invariant-loop-index
invariant-loop-index l = record {
  within : l.index ≤ length l.pieces;
  rows : ArePieceRows l.pieces l.text l.rows.items;
  count : length l.rows.items + l.index ≡ length l.pieces + 1;
  above : l.visits
      ≤ l.fn.visits + all_sizes (drop l.index l.pieces) * ((length l.text + 1) * (length l.text + 1));
  steady : l.fn.visits ≤ l.visits;
}

abbrev pub decreases-loop-index : goal.decreases-loop-index
decreases-loop-index l = l.index
