-- The numbers of the patterns that match a text.
use Rattle.std.specs.Prelude.{◌↔◌, ◌≤◌, ◌++◌, ◌∷◌, [], Contains, List, None, Option, Some, ℕ}
use Rattle.std.specs.List.Sorted.{IsStrictlyIncreasing}
use Rattle.wax_program.specs.{declared.instruction.Instruction.Instruction, Machine.{Accepts, mark}}

-- these are the numbers whose marks are accepted after the text, from a place on, ascending
abbrev pub AreNumbersFrom : List Instruction → ℕ → List ℕ → List ℕ → Type 0
AreNumbersFrom code start text numbers =
    ((number : ℕ) → Contains numbers number ↔ Accepts code start (text ++ mark number ∷ []))
    × IsStrictlyIncreasing numbers

-- the same from the beginning of the program on
abbrev pub AreNumbers : List Instruction → List ℕ → List ℕ → Type 0
AreNumbers code text numbers = AreNumbersFrom code 0 text numbers

-- this is the greatest number for which the fact holds, or it holds for none
abbrev pub IsLastWhere : (ℕ → Type 0) → Option ℕ → Type 0
IsLastWhere Q None = (number : ℕ) → Q number → ⊥
IsLastWhere Q (Some last) = Q last × ((number : ℕ) → Q number → number ≤ last)

-- this is the greatest number whose mark is accepted after the text, from a place on, or there is none
abbrev pub IsLastNumberFrom : List Instruction → ℕ → List ℕ → Option ℕ → Type 0
IsLastNumberFrom code start text = IsLastWhere (λ number. Accepts code start (text ++ mark number ∷ []))

-- the same from the beginning of the program on
abbrev pub IsLastNumber : List Instruction → List ℕ → Option ℕ → Type 0
IsLastNumber code text = IsLastNumberFrom code 0 text
