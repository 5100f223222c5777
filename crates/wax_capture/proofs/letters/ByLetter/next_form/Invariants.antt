use Rattle.std.proofs.Common.{◌-◌, ◌≤◌, length, drop}
use Rattle.wax_capture.specs.inner.Letters.{ArePassed}
use Rattle.wax_capture.proofs.letters.ByLetter.next_form.Given as goal

abbrev pub invariant-loop-index : goal.invariant-loop-index
invariant-loop-index l = record {
  further : l.from ≤ l.index;
  passed : ArePassed l.self l.from l.index (drop l.at l.text);
}

abbrev pub decreases-loop-index : goal.decreases-loop-index
decreases-loop-index l = length l.self - l.index
