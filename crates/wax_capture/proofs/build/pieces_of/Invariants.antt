use Rattle.std.proofs.Common.{◌≤◌, ltb, false, length, drop, reverse}
use Rattle.wax_token.specs.Words.{trees}
use Rattle.wax_capture.specs.Pieces.{ArePieces}
use Rattle.wax_capture.proofs.build.pieces_of.Given as goal

abbrev pub invariant-loop-index : goal.invariant-loop-index
invariant-loop-index g l = record {
  within : l.index ≤ length l.tokens;
  pieces : ArePieces (trees (drop l.index l.tokens)) (ltb 0 l.index) false (reverse l.pieces.items);
}

abbrev pub decreases-loop-index : goal.decreases-loop-index
decreases-loop-index g l = l.index
