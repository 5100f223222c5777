use Rattle.std.proofs.Common.{◌≡◌, ◌+◌, ◌≤◌, drop, length}
use Rattle.std.specs.List.{filter}
use Rattle.wax_token.specs.Kinds.{is_capturing}
use Rattle.wax_components.proofs.capturing.capture_count.Given as goal

abbrev pub invariant-loop-token : goal.invariant-loop-token
invariant-loop-token g l = record {
  counted : l.count + length (filter is_capturing (drop l.token-index l.token-items))
      ≡ length (filter is_capturing l.token-items);
  within : l.count ≤ l.token-index;
}
