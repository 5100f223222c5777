use Rattle.std.proofs.Common.{◌≡◌, ◌≤◌, length, map, take}
use Rattle.wax_capture.specs.inner.Bytes.{byte_at, in_bytes}
use Rattle.wax_capture.proofs.bytes.count_bytes.Given as goal

abbrev pub invariant-loop-index : goal.invariant-loop-index
invariant-loop-index l = record {
  places : l.places.items ≡ map (in_bytes l.text) (take l.index l.parts);
  known : l.bytes ≡ byte_at l.text l.known;
  within : l.known ≤ length l.text;
}
