use Rattle.std.proofs.Common.{◌≡◌, ℕ, true, List, ◌++◌, chars, IsUtf8}
use Rattle.std.specs.Str.Iter.{chars_rest}
use Rattle.wax_token.specs.Meaning.{SameText}
use Rattle.wax_prefilter.proofs.AnyCase.{BeginsAlike}
use Rattle.wax_prefilter.proofs.any_case.begins_in_any_case.Given as goal

abbrev pub invariant-loop-d : goal.invariant-loop-d
invariant-loop-d l =
    IsUtf8 (chars_rest l.left) × IsUtf8 (chars_rest l.wanted)
    × ((x y : List ℕ) → chars l.text ≡ x ++ y → SameText true (chars l.beginning) x
    → BeginsAlike (chars (chars_rest l.left)) (chars (chars_rest l.wanted)) y)
