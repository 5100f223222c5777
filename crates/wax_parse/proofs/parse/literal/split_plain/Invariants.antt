use Rattle.std.proofs.Common.{◌≡◌, ◌++◌, List, ℕ, chars, true, length}
use denote.{Text.Utf8, Shadow.shadow}
use Rattle.wax_parse.specs.inner.Parser.{is_plain_text}
use Rattle.wax_parse.proofs.parse.literal.split_plain.Given as goal

abbrev pub invariant-loop-c : goal.invariant-loop-c
invariant-loop-c l = shadow (Utf8 l.rest)
    × ((t : List ℕ) × (is_plain_text t ≡ true) × (chars l.text ≡ t ++ chars l.rest))

abbrev pub decreases-loop-c : goal.decreases-loop-c
decreases-loop-c l = length (chars l.rest)
