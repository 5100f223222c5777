use Rattle.std.proofs.Common.{ℕ, ◌≤◌, ◌++◌, List, length, drop}
use Rattle.wax_capture.specs.{inner.Splits.{AreChosen, Splits}, inner.Trials.lengths_of}
use Rattle.wax_capture.proofs.table.split_by_table.Given as goal

abbrev pub invariant-loop-index : goal.invariant-loop-index
invariant-loop-index l = record {
  within : l.at ≤ length l.text;
  splits : Splits (drop l.index l.pieces) (drop l.at l.text);
  chosen : (others : List ℕ) → AreChosen (drop l.index l.pieces) (drop l.at l.text) others
      → AreChosen l.pieces l.text (lengths_of l.chosen.items ++ others);
}
