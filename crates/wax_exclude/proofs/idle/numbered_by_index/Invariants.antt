use Rattle.std.proofs.Common.{◌≡◌, ◌+◌, take}
use Rattle.wax_match.specs.Numbered.{numbered_length}
use Rattle.wax_exclude.proofs.IdleLines.{AreOfFirst}
use Rattle.wax_exclude.specs.Length.{list_length}
use Rattle.wax_exclude.proofs.idle.numbered_by_index.Given as goal

abbrev pub invariant-loop-index : goal.invariant-loop-index
invariant-loop-index l = record {
  first : AreOfFirst l.lines l.patterns.items l.index;
  length : numbered_length l.patterns.items + 1 ≡ list_length (take l.index l.lines);
}
