-- The places that a step reaches.
use Rattle.std.specs.Prelude.{◌↔◌, ◌⊎◌, ◌≤◌, ℕ, Bool, true, false, List, [], ◌∷◌, Contains, length}
use Rattle.wax_program.specs.{Machine.mark, declared.instruction.Instruction.Instruction, Threads.AnyAmong}

-- the places that were reached accept the rest exactly where some of `places` accept a text that begins with
-- the character, or some of `also` accept the rest
abbrev pub AreReached : List Instruction → ℕ → List ℕ → List ℕ → List ℕ → Type 0
AreReached code c places also reached =
    (s : List ℕ) → AnyAmong code reached s ↔ (AnyAmong code places (c ∷ s) ⊎ AnyAmong code also s)

-- each is a place of the program or its end
abbrev pub AreWithin : List Instruction → List ℕ → Type 0
AreWithin code places = (k : ℕ) → Contains places k → k ≤ length code

-- the places if the flag is true, and otherwise none
abbrev pub taken_if : Bool → List ℕ → List ℕ
taken_if true places = places
taken_if false places = []

-- these are the numbers whose marks are accepted from one of the places on
abbrev pub AreEndsMarked : List Instruction → List ℕ → List ℕ → Type 0
AreEndsMarked code places numbers =
    (number : ℕ) → Contains numbers number ↔ AnyAmong code places (mark number ∷ [])
