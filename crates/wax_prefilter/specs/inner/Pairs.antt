-- Two bytes at a distance. Only private functions cite this file.
use Rattle.std.specs.Prelude.{◌≡◌, ℕ, ◌+◌, ◌<◌, ◌==◌, List, [], ◌∷◌, ◌++◌, length, map, slice_index, chars}
use Rattle.std.specs.{Prelude.{Bool, true, false}, Char.to_ascii_lowercase, List.Any, Str.IsUtf8}
use Rattle.wax_prefilter.specs.Facts.{ContainsAt, FactView, FactsHold, NeedleView}
use Rattle.wax_prefilter.specs.{declared.needle.Anchor.Anchor, declared.pair.Pair.Pair}
use Rattle.wax_prefilter.specs.declared.pair.SoughtPairs.{SoughtPairs}

-- the byte as it is or, in any case, in lower case
abbrev pub lowered_byte : Bool → ℕ → ℕ
lowered_byte false b = b
lowered_byte true b = to_ascii_lowercase b

-- the bytes as they are or, in any case, in lower case
abbrev pub lowered : Bool → List ℕ → List ℕ
lowered false bytes = bytes
lowered true bytes = map to_ascii_lowercase bytes

-- the pair is at this position
pub record PairIsAt (pair : Pair) (bytes : List ℕ) (position : ℕ) : Type 0 where
  pub inside : position + pair.distance < length bytes
  pub first : slice_index bytes position ≡ pair.first
  pub last : slice_index bytes (position + pair.distance) ≡ pair.last

-- the pair is at some position
abbrev pub ContainsPair : List ℕ → Pair → Type 0
ContainsPair bytes pair = (position : ℕ) × PairIsAt pair bytes position

-- one of the pairs is at this position
abbrev pub OneIsAt : List Pair → List ℕ → ℕ → Type 0
OneIsAt pairs bytes position = Any (λ pair. PairIsAt pair bytes position) pairs

-- one of the pairs, perhaps in any case, is in the text or, with its last byte, in the line feed after it
abbrev pub LineHasOne : Bool → List Pair → List ℕ → Type 0
LineHasOne in_any_case pairs text =
    (position : ℕ) × OneIsAt pairs (lowered in_any_case (text ++ 10 ∷ [])) position

-- each text that has the needle has the pair, perhaps in any case
abbrev pub IsPairOf : NeedleView → Bool → Pair → Type 0
IsPairOf needle in_any_case pair = (text : List ℕ) → IsUtf8 text
    → (anchor : Anchor) × ContainsAt anchor needle (chars text) → LineHasOne in_any_case (pair ∷ []) text

-- each text of which the facts hold has one of the pairs
abbrev pub ArePairsOf : List FactView → SoughtPairs → Type 0
ArePairsOf facts pairs = (text : List ℕ) → IsUtf8 text → FactsHold facts (chars text)
    → LineHasOne pairs.in_any_case pairs.list.items text

-- the pair doesn't stand before this position
abbrev pub NoPairBefore : Pair → List ℕ → ℕ → Type 0
NoPairBefore pair bytes n = (k : ℕ) → k < n → PairIsAt pair bytes k → ⊥

-- none of the pairs stands before this position
abbrev pub NoPairsBefore : List Pair → List ℕ → ℕ → Type 0
NoPairsBefore pairs bytes n = (k : ℕ) → k < n → OneIsAt pairs bytes k → ⊥

abbrev pub is_zero : ℕ → Bool
is_zero b = b == 0

-- the lane is 0 if both bytes of the pair are in the lanes of two vectors
abbrev pub ZeroWhere : Pair → List ℕ → List ℕ → List ℕ → Type 0
ZeroWhere pair front back lanes = (k : ℕ) → k < 32 → slice_index front k ≡ pair.first
    → slice_index back k ≡ pair.last → slice_index lanes k ≡ 0
