use Rattle.std.proofs.Common.{◌≡◌, map, take}
use Rattle.wax_capture.specs.inner.Bytes.{span_between}
use Rattle.wax_capture.proofs.bytes.to_spans.Given as goal

abbrev pub invariant-loop-index : goal.invariant-loop-index
invariant-loop-index l = l.spans.items ≡ map span_between (take l.index l.places)
