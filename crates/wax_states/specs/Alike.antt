-- Characters by which each instruction of a program does the same.
use Rattle.std.specs.Prelude.{◌≡◌, ◌<◌, ◌≤◌, ℕ, Bool, IfSome, List, Some, length, slice_get}
use Rattle.wax_program.specs.{declared.instruction.Instruction.Instruction, Places.HoldsPlace, Steady.Alike}
use Rattle.wax_states.specs.declared.letters.Letters.{Letters}

-- each instruction does the same by both characters
abbrev pub AreAlike : List Instruction → ℕ → ℕ → Type 0
AreAlike code c d = (k : ℕ) (i : Instruction) → slice_get code k ≡ Some i → Alike i c d

-- the character is past ASCII and among the first 131,072, and isn't marked
abbrev pub SharesLetter : List Bool → ℕ → Type 0
SharesLetter marks c = (128 ≤ c) × (c < 131072) × (HoldsPlace marks c → ⊥)

-- where characters share a letter, each that isn't marked is like it
pub record AreLettersOf (code : List Instruction) (l : Letters) : Type 0 where
  pub room : 131072 < length l.marks
  pub alike : IfSome l.shared (λ letter. (c : ℕ) → SharesLetter l.marks c → AreAlike code c letter)
