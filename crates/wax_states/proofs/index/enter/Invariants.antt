use Rattle.std.proofs.Common.{◌≡◌}
use Rattle.wax_states.specs.inner.Slots.{IsFull}
use Rattle.wax_states.proofs.index.enter.Given as goal

abbrev pub invariant-loop-probe : goal.invariant-loop-probe
invariant-loop-probe l = (l.slots.items ≡ l.fn.slots.items) × IsFull l.slots.items l.hash l.probe
