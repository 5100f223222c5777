use Rattle.std.proofs.Common.{◌+◌, ◌-◌, ◌*◌, ◌≤◌, length, drop}
use Rattle.wax_lengths.specs.{Forms.form_size, Spans.looks}
use Rattle.wax_capture.proofs.Choosing.{Left}
use Rattle.wax_capture.proofs.choice.choose_by.Given as goal

abbrev pub invariant-loop-n : goal.invariant-loop-n
invariant-loop-n l = record {
  left : Left l.form (drop l.at l.text) l.next l.at l.span;
  end : l.at + l.span.end ≤ length l.text + 1;
  looked : l.visits + looks l.span ≤ l.fn.visits + form_size l.form * (length l.text + 1);
  steady : l.fn.visits ≤ l.visits;
}

abbrev pub decreases-loop-n : goal.decreases-loop-n
decreases-loop-n l = l.span.end - l.span.low
