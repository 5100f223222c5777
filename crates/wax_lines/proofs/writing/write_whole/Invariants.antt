use Rattle.std.proofs.Common.{◌≡◌, ◌≤◌, ℕ, List, ◌++◌, length}
use Rattle.std.specs.Io.KnownBytes.{Appends}
use Rattle.wax_lines.proofs.writing.write_whole.Given as goal

-- a beginning was written
abbrev pub invariant-loop-rest : goal.invariant-loop-rest
invariant-loop-rest g l = (front : List ℕ) × (l.bytes ≡ front ++ l.rest)
    × Appends (g.W.Write.contents l.initial.output.inner) (g.W.Write.contents l.output.inner) front
    × (l.initial.output.failures ≤ l.output.failures)

abbrev pub decreases-loop-rest : goal.decreases-loop-rest
decreases-loop-rest g l = length l.rest
