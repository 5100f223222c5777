use Rattle.std.proofs.Common.{◌≡◌, ◌≤◌, ℕ, chars, length}
use denote.{Text.Utf8, Shadow.shadow}
use Rattle.wax_parse.specs.inner.Parser.{class_run, prefixed}
use Rattle.wax_parse.proofs.parse.class.read_archetypes.Given as goal

abbrev pub invariant-loop-after : goal.invariant-loop-after
invariant-loop-after l = shadow (Utf8 l.rest) × ((n : ℕ) × (length (chars l.rest) ≤ n)
    × (class_run (length (chars l.text)) (chars l.text)
    ≡ prefixed l.archetypes.items (class_run n (chars l.rest))))

abbrev pub decreases-loop-after : goal.decreases-loop-after
decreases-loop-after l = length (chars l.rest)
