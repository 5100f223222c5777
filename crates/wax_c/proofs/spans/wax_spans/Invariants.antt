use Rattle.std.proofs.Common.{◌≡◌, take}
use Rattle.wax_c.specs.Spans.{wax_spans}
use Rattle.wax_c.proofs.spans.wax_spans.Given as goal

abbrev pub invariant-loop-index : goal.invariant-loop-index
invariant-loop-index l = l.found.items ≡ wax_spans (take l.index l.spans)
