use Rattle.std.proofs.Common.{◌≡◌, ◌-◌, ◌≤◌, length}
use Rattle.wax_lines.specs.{Counts.greatest_count, inner.Progress.Came}
use Rattle.wax_lines.proofs.lines.take_all.Given as goal

-- what was read was taken in, what was written had waited, and the writer of lines is seen as before
abbrev pub invariant-loop-input : goal.invariant-loop-input
invariant-loop-input g l =
    Came (g.L.LineWriter.writes (g.L.LineWriter.view l.initial.line_writer))
    (g.R.Read.remaining l.initial.input.inner) (g.R.Read.remaining l.input.inner)
    (g.W.Write.contents l.initial.output.inner) (g.W.Write.contents l.output.inner) l.sieve
    × (length l.chunk ≡ 65536) × (l.initial.input.failures ≤ l.input.failures)
    × (l.initial.output.failures ≤ l.output.failures)
    × (g.L.LineWriter.view l.line_writer ≡ g.L.LineWriter.view l.initial.line_writer)

abbrev pub decreases-loop-input : goal.decreases-loop-input
decreases-loop-input g l = greatest_count - l.input.calls
