use Rattle.std.proofs.Common.{◌≡◌, length}
use Rattle.wax_exclude.proofs.Undecided.{AreOthers}
use Rattle.wax_exclude.proofs.idle.Lines.covering.Given as goal

abbrev pub invariant-loop-round : goal.invariant-loop-round
invariant-loop-round l = record {
  lines : l.self.lines ≡ l.fn.self.lines;
  numbered : l.self.numbered ≡ l.fn.self.numbered;
  most : l.self.most_states ≡ l.fn.self.most_states;
  others : AreOthers l.fn.self.lines.now l.index l.covers.items;
  count : length l.covers.items ≡ l._round;
}
