use Rattle.std.proofs.Common.{◌≡◌, ℕ, List, [], ◌++◌, IsUtf8, length}
use Rattle.wax_lines.specs.inner.Progress.{TakesIn}
use Rattle.wax_lines.proofs.lines.sieve.Sieve.take_text.Given as goal

-- a beginning of the text was taken in, and the writer of lines is seen as before
abbrev pub invariant-loop-line : goal.invariant-loop-line
invariant-loop-line g l = (front : List ℕ) × (l.text ≡ front ++ l.rest) × IsUtf8 l.rest
    × (l.self.carry.items ≡ [])
    × TakesIn (g.L.LineWriter.writes (g.L.LineWriter.view l.initial.line_writer)) front l.initial.self l.self
    × (g.L.LineWriter.view l.line_writer ≡ g.L.LineWriter.view l.initial.line_writer)

abbrev pub decreases-loop-line : goal.decreases-loop-line
decreases-loop-line g l = length l.rest
