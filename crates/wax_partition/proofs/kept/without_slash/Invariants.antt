use Rattle.std.proofs.Common.{◌≡◌, ◌++◌, drop, length, chars, string_bytes}
use Rattle.wax_partition.specs.Kept.{without_slash}
use Rattle.wax_partition.proofs.SlashSteps.{still}
use Rattle.wax_partition.proofs.kept.without_slash.Given as goal

-- what is kept so far, and what is kept of the characters still to come
abbrev pub invariant-loop-c : goal.invariant-loop-c
invariant-loop-c l =
    chars (string_bytes l.kept) ++ still l.is_gone (drop (length l.yielded) (chars l.text))
    ≡ without_slash (chars l.text)
