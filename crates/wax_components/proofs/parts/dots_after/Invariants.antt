use Rattle.std.proofs.Common.{◌≡◌, fold}
use Rattle.wax_components.specs.inner.Dots.{dot_after}
use Rattle.wax_components.proofs.parts.dots_after.Given as goal

abbrev pub invariant-loop-c : goal.invariant-loop-c
invariant-loop-c l = l.dots ≡ fold dot_after l.before l.yielded
