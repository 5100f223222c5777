use Rattle.std.proofs.Common.{◌≡◌, ◌<◌, ℕ, get_or}
use Rattle.wax_program.specs.{Places.HoldsPlace, Onward.flags_for}
use Rattle.wax_lazy.proofs.ends.any_ahead.Given as goal

abbrev pub invariant-loop-place : goal.invariant-loop-place
invariant-loop-place l = (j k : ℕ) → j < l.place-index → get_or l.places j k ≡ k
    → HoldsPlace (flags_for l.m l.onward) k → ⊥
