use Rattle.std.proofs.Common.{◌≤◌, drop}
use Rattle.wax_capture.specs.inner.Letters.{ArePassed}
use Rattle.wax_capture.proofs.piece.next_in_order.Given as goal

abbrev pub invariant-loop-index : goal.invariant-loop-index
invariant-loop-index l = record {
  further : l.from ≤ l.index;
  passed : ArePassed l.forms l.from l.index (drop l.at l.text);
}
