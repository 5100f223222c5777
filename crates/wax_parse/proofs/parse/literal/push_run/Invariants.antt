use Rattle.std.proofs.Common.{◌≡◌, ◌++◌, List, ℕ, chars, string_bytes, length}
use denote.{Text.Utf8, Shadow.shadow}
use Rattle.wax_parse.specs.inner.Parser.{literal_run}
use Rattle.wax_parse.proofs.parse.literal.push_run.Given as goal

abbrev pub invariant-loop-c : goal.invariant-loop-c
invariant-loop-c l = shadow (Utf8 l.rest)
    × ((t : List ℕ) × (chars (string_bytes l.literal) ≡ chars (string_bytes l.fn.literal) ++ t)
    × (literal_run (chars l.text) ≡ (t ++ (literal_run (chars l.rest)).0, (literal_run (chars l.rest)).1)))

abbrev pub decreases-loop-c : goal.decreases-loop-c
decreases-loop-c l = length (chars l.rest)
