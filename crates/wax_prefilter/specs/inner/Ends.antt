-- Needles at the ends of lines. Only private functions cite this file.
use Rattle.std.specs.Prelude.{◌≡◌, ◌<◌, ◌≤◌, ◌-◌, ℕ, List, [], ◌∷◌, ◌++◌, slice_index, get_or, length, take}
use Rattle.std.specs.{Prelude.chars, Str.IsUtf8}
use Rattle.wax_prefilter.specs.Facts.{FactView, NeedleView, ContainsOne, ContainsAt}
use Rattle.wax_prefilter.specs.{declared.line_end.EndPair.EndPair, declared.needle.Anchor.TheVariants.End}
use Rattle.wax_prefilter.specs.inner.Pairs.{PairIsAt}

-- the needle is at the end of a text with which the bytes end
abbrev pub EndsWith : NeedleView → List ℕ → Type 0
EndsWith needle bytes =
    (x : List ℕ) × (y : List ℕ) × (bytes ≡ x ++ y) × IsUtf8 y × ContainsAt End needle (chars y)

-- one of the needles is
abbrev pub EndsWithOne : List NeedleView → List ℕ → Type 0
EndsWithOne needles bytes =
    (x : List ℕ) × (y : List ℕ) × (bytes ≡ x ++ y) × IsUtf8 y × ContainsOne End needles (chars y)

-- no line feed before this position comes after one of the needles
abbrev pub NoneEndsBefore : List NeedleView → List ℕ → ℕ → Type 0
NoneEndsBefore needles bytes n =
    (k : ℕ) → k < n → slice_index bytes k ≡ 10 → EndsWithOne needles (take k bytes) → ⊥

-- the pair is found so many bytes before the end of the bytes, perhaps with the line feed after them
abbrev pub IsBeforeEnd : List ℕ → EndPair → Type 0
IsBeforeEnd bytes end =
    (end.back ≤ length bytes) × PairIsAt end.pair (bytes ++ 10 ∷ []) (length bytes - end.back)

-- the pair is found so before the end of all bytes that end with one of the needles
abbrev pub ComesBefore : EndPair → List NeedleView → Type 0
ComesBefore end needles = (bytes : List ℕ) → EndsWithOne needles bytes → IsBeforeEnd bytes end

-- the first fact is of these needles, at the end, and the pair is found before them
abbrev pub IsOfFirst : List FactView → EndPair → Type 0
IsOfFirst facts end = (fact : FactView) → fact ≡ get_or facts 0 fact → (fact.0 ≡ End) × ComesBefore end fact.1
