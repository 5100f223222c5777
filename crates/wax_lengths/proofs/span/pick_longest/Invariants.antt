use Rattle.std.proofs.Common.{◌+◌, ◌-◌, ◌≤◌, drop}
use Rattle.wax_lengths.specs.Spans.{looks}
use Rattle.wax_lengths.proofs.Picking.{IsLeftOf}
use Rattle.wax_lengths.proofs.span.pick_longest.Given as goal

abbrev pub invariant-loop-span : goal.invariant-loop-span
invariant-loop-span l = record {
  left : IsLeftOf l.fn.span l.span (drop l.at l.text);
  end : l.span.end ≤ l.fn.span.end;
  fewer : l.span.end - l.span.low ≤ l.fn.span.end - l.fn.span.low;
  looked : l.visits + looks l.span ≤ l.fn.visits + looks l.fn.span;
  steady : l.fn.visits ≤ l.visits;
}

abbrev pub decreases-loop-span : goal.decreases-loop-span
decreases-loop-span l = l.span.end - l.span.low
