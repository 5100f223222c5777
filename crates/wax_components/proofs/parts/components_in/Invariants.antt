use Rattle.std.proofs.Common.{◌≡◌, ◌-◌, ◌++◌, ◌≤◌, true, drop, length}
use Rattle.wax_components.specs.Parts.{components_in}
use Rattle.wax_components.proofs.parts.components_in.Given as goal

abbrev pub invariant-loop-start : goal.invariant-loop-start
invariant-loop-start g l = record {
  parts : l.components.items ++ components_in true (drop l.start l.tokens) ≡ components_in true l.tokens;
  within : l.start ≤ length l.tokens;
}

abbrev pub decreases-loop-start : goal.decreases-loop-start
decreases-loop-start g l = length l.tokens - l.start
