use Rattle.std.proofs.Common.{◌≡◌, chars, length}
use denote.{Text.Utf8, Shadow.shadow}
use Rattle.wax_parse.specs.inner.Parser.{group_end}
use Rattle.wax_parse.proofs.parse.flags.read_toggles.Given as goal

abbrev pub invariant-loop-after : goal.invariant-loop-after
invariant-loop-after l =
    shadow (Utf8 l.rest) × (group_end l.is_case_insensitive (chars l.text) ≡ group_end l.is_on (chars l.rest))

abbrev pub decreases-loop-after : goal.decreases-loop-after
decreases-loop-after l = length (chars l.rest)
