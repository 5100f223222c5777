use Rattle.std.proofs.Common.{◌≡◌, ◌<◌, ◌≤◌, ℕ, get_or}
use Rattle.wax_program.proofs.bits.set.Set.first_from.Given as goal

abbrev pub invariant-loop-index : goal.invariant-loop-index
invariant-loop-index l = (j : ℕ) → l.word ≤ j → j < l.index → get_or l.self-inside.words.items j 0 ≡ 0
