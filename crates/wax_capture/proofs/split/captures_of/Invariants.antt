use Rattle.std.proofs.Common.{ℕ, ◌≤◌, ◌++◌, List, length, drop}
use Rattle.std.specs.List.{All}
use Rattle.wax_capture.specs.{inner.Parts.{IsWithin, parts}, inner.Splits.{AreChosen, CapturedBy, PlacedBy}}
use Rattle.wax_capture.specs.inner.Trials.{lengths_of}
use Rattle.wax_capture.proofs.split.captures_of.Given as goal

abbrev pub invariant-loop-index : goal.invariant-loop-index
invariant-loop-index l = record {
  within : l.at ≤ length l.text;
  chosen : AreChosen (drop l.index l.pieces) (drop l.at l.text) (drop l.index (lengths_of l.chosen));
  captured : (others : List (List ℕ)) → CapturedBy (drop l.index l.pieces) (drop l.at l.text) others
      → CapturedBy l.pieces l.text (parts l.text l.captures.items ++ others);
  placed : (others : List (ℕ × ℕ)) → PlacedBy (drop l.index l.pieces) l.at (drop l.at l.text) others
      → PlacedBy l.pieces 0 l.text (l.captures.items ++ others);
  inside : All (IsWithin l.text) l.captures.items;
}
