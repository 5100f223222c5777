use Rattle.std.proofs.Common.{◌≡◌, chars, length}
use denote.{Text.Utf8, Shadow.shadow}
use Rattle.wax_parse.specs.inner.Parser.{number_run, digits_run}
use Rattle.wax_parse.proofs.parse.bounds.read_number.Given as goal

abbrev pub invariant-loop-digit : goal.invariant-loop-digit
invariant-loop-digit l =
    shadow (Utf8 l.rest) × (number_run (chars l.text) ≡ digits_run l.number (chars l.rest))

abbrev pub decreases-loop-digit : goal.decreases-loop-digit
decreases-loop-digit l = length (chars l.rest)
