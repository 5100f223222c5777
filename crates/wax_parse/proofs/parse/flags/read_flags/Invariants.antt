use Rattle.std.proofs.Common.{◌≡◌, ◌≤◌, ℕ, chars, length}
use denote.{Text.Utf8, Shadow.shadow}
use Rattle.wax_parse.specs.inner.Parser.{at, flags_run, flags_end}
use Rattle.wax_parse.proofs.parse.flags.read_flags.Given as goal

abbrev pub invariant-loop-next : goal.invariant-loop-next
invariant-loop-next l = shadow (Utf8 l.cursor.rest.now) × ((n : ℕ) × (length (chars l.cursor.rest.now) ≤ n)
    × (flags_end (at l.from.is_case_insensitive (chars l.from.rest.now))
    ≡ flags_run n (at l.cursor.is_case_insensitive (chars l.cursor.rest.now))))

abbrev pub decreases-loop-next : goal.decreases-loop-next
decreases-loop-next l = length (chars l.cursor.rest.now)
