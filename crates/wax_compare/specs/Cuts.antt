-- Characters that stand for others, by which each instruction of two programs does the same.
use Rattle.std.specs.Prelude.{◌≡◌, ◌↔◌, ◌<◌, ◌≤◌, ℕ, true, List, Contains, length, slice_index}
use Rattle.std.specs.{Char.IsScalar, Str.all_scalars}
use Rattle.wax_program.specs.declared.instruction.Instruction.{Instruction}
use Rattle.wax_states.specs.Alike.{AreAlike}

-- no cut is between the two characters
abbrev pub SameBlock : List ℕ → ℕ → ℕ → Type 0
SameBlock cuts c d = (p : ℕ) → Contains cuts p → (p ≤ c) ↔ (p ≤ d)

-- each instruction does the same by two characters between which no cut is
abbrev pub CutApart : List Instruction → List ℕ → Type 0
CutApart code cuts = (c d : ℕ) → c < 1114112 → d < 1114112 → SameBlock cuts c d → AreAlike code c d

-- the two characters pass the same tests of both programs, and both are `/` or neither is
pub record StandsFor (code other : List Instruction) (letter c : ℕ) : Type 0 where
  pub first : AreAlike code c letter
  pub second : AreAlike other c letter
  pub slash : (c ≡ 47) ↔ (letter ≡ 47)

-- one of the letters stands for the character
abbrev pub HasStandIn : List Instruction → List Instruction → List ℕ → ℕ → Type 0
HasStandIn code other letters c = (d : ℕ) × Contains letters d × StandsFor code other d c

-- this holds of every character
abbrev pub AreLetters : List Instruction → List Instruction → List ℕ → Type 0
AreLetters code other letters = (c : ℕ) → IsScalar c → HasStandIn code other letters c

-- the letters are characters, and none stands for a later one
pub record AreUnlike (code other : List Instruction) (letters : List ℕ) : Type 0 where
  pub scalars : all_scalars letters ≡ true
  pub unlike : (i j : ℕ) → i < j → j < length letters
      → StandsFor code other (slice_index letters i) (slice_index letters j) → ⊥
