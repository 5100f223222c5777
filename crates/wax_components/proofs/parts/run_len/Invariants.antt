use Rattle.std.proofs.Common.{◌≡◌, ◌+◌, ◌-◌, ◌≤◌, drop, length}
use Rattle.std.specs.List.{position_or_len}
use Rattle.wax_token.specs.Kinds.{is_boundary}
use Rattle.wax_components.proofs.parts.run_len.Given as goal

abbrev pub invariant-loop-count : goal.invariant-loop-count
invariant-loop-count g l = record {
  run : l.count + position_or_len is_boundary (drop l.count l.tokens) ≡ position_or_len is_boundary l.tokens;
  within : l.count ≤ length l.tokens;
}

abbrev pub decreases-loop-count : goal.decreases-loop-count
decreases-loop-count g l = length l.tokens - l.count
