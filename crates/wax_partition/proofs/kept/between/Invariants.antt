use Rattle.std.proofs.Common.{◌≡◌, ◌++◌, ◌-◌, ◌^◌, ℕ, drop, length, min, chars, string_bytes}
use Rattle.wax_partition.specs.Kept.{between}
use Rattle.wax_partition.proofs.kept.between.Given as goal

-- what is kept so far, and what is kept of the characters still to come
abbrev pub invariant-loop-c : goal.invariant-loop-c
invariant-loop-c l = (place : ℕ) × (l.at ≡ min place (2 ^ 64 - 1))
    × (chars (string_bytes l.kept) ++ between place l.from l.to (drop (length l.yielded) (chars l.expression))
    ≡ between 0 l.from l.to (chars l.expression))
