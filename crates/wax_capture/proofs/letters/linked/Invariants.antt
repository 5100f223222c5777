use Rattle.std.proofs.Common.{◌≤◌, length}
use Rattle.wax_capture.specs.inner.Letters.{AreLinked}
use Rattle.wax_capture.proofs.letters.linked.Given as goal

abbrev pub invariant-loop-index : goal.invariant-loop-index
invariant-loop-index l = record {
  within : l.index ≤ length l.forms.items;
  linked : AreLinked l.forms.items l.is_any_case l.firsts.items l.nexts.items l.index;
}

abbrev pub decreases-loop-index : goal.decreases-loop-index
decreases-loop-index l = l.index
