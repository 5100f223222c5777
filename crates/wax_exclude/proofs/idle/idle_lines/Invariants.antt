use Rattle.std.proofs.Common.{◌≡◌}
use Rattle.wax_exclude.specs.{Idle.{AreIdleAmong, LineIgnores, LineMeans}, Undecided.AreUndecided}
use Rattle.wax_exclude.specs.inner.Idle.{AreMatchedBy}
use Rattle.wax_exclude.proofs.idle.idle_lines.Given as goal

abbrev pub invariant-loop-index : goal.invariant-loop-index
invariant-loop-index l = record {
  lines : l.compared.lines.now ≡ l.lines;
  numbered : AreMatchedBy l.lines l.compared.numbered;
  most : l.compared.most_states ≡ l.most_states;
  idle : AreIdleAmong (LineIgnores l.lines) (LineMeans l.lines) l.index l.idle.items;
  undecided : AreUndecided l.lines l.most_states l.idle.items;
}
