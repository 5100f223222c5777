use Rattle.std.proofs.Common.{◌≡◌, ◌+◌, ◌*◌, ◌≤◌, ◌∷◌, List, length, drop}
use Rattle.wax_capture.specs.{inner.Splits.all_sizes, inner.Trials.{HasRoom, IsOpen, Trail, characters_taken}}
use Rattle.wax_capture.specs.declared.piece.Piece.{Piece}
use Rattle.wax_capture.proofs.trial.split_by_trial.Given as goal

abbrev pub invariant-loop : goal.invariant-loop
invariant-loop l = record {
  trail : Trail l.pieces l.text (all_sizes l.pieces * (length l.text + 1)) 0 l.below.items;
  place : l.top.at ≡ characters_taken l.below.items;
  tried : (p : Piece) (ps : List Piece) → drop (length l.below.items) l.pieces ≡ p ∷ ps
      → IsOpen p ps (drop l.top.at l.text) l.top;
  room : HasRoom l.text (all_sizes l.pieces * (length l.text + 1)) l.top;
  above : l.visits ≤ l.fn.visits + l.limit + 2 * (all_sizes l.pieces * (length l.text + 1));
  steady : l.fn.visits ≤ l.visits;
}
