use Rattle.std.proofs.Common.{◌≡◌, ◌+◌}
use Rattle.wax_capture.specs.inner.Bytes.{byte_at}
use Rattle.wax_capture.proofs.bytes.byte_len.Given as goal

abbrev pub invariant-loop-place : goal.invariant-loop-place
invariant-loop-place l = byte_at l.text l.from + l.len ≡ byte_at l.text l.place
