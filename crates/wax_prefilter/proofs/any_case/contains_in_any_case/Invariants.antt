use Rattle.std.proofs.Common.{◌≡◌, ℕ, true, List, ◌++◌, chars, IsUtf8}
use Rattle.std.specs.Str.Iter.{chars_rest}
use Rattle.wax_token.specs.Meaning.{SameText}
use Rattle.wax_prefilter.proofs.AnyCase.{HoldsAlike}
use Rattle.wax_prefilter.proofs.any_case.contains_in_any_case.Given as goal

abbrev pub invariant-loop-c : goal.invariant-loop-c
invariant-loop-c l =
    IsUtf8 (chars_rest l.left)
    × ((x y z : List ℕ) → chars l.text ≡ x ++ (y ++ z) → SameText true (chars l.held) y
    → HoldsAlike (chars (chars_rest l.left)) y z)
