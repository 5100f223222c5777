-- Programs that have no end but those of their patterns.
use Rattle.std.specs.Prelude.{◌≡◌, ◌↔◌, ℕ, ◌<◌, ◌≤◌, List, [], ◌++◌, ◌∷◌, Some, Contains, length, slice_get}
use Rattle.std.specs.Prelude.{⊤}
use Rattle.wax_program.specs.{Places.HoldsPlace, declared.instruction.Instruction.Instruction}
use Rattle.wax_program.specs.declared.instruction.Instruction.TheVariants.{Check, Repeat, Components, Fork}
use Rattle.wax_program.specs.declared.instruction.Instruction.TheVariants.{Jump, Back, End}
use Rattle.wax_program.specs.{Machine.{Accepts, mark}, Threads.Position}

-- wherever the instruction leads, there is one, if so many follow it
abbrev pub LeadsWithin : Instruction → ℕ → Type 0
LeadsWithin (Check t) left = 1 ≤ left
LeadsWithin (Repeat t) left = 1 ≤ left
LeadsWithin Components left = 1 ≤ left
LeadsWithin (Fork n) left = n < left
LeadsWithin (Jump n) left = n < left
LeadsWithin (Back n) left = ⊤
LeadsWithin (End low high) left = ⊤

-- so do all of these instructions
abbrev pub IsClosed : List Instruction → Type 0
IsClosed [] = ⊤
IsClosed (i ∷ is) = LeadsWithin i (length is) × IsClosed is

-- at the place stands an end that takes the mark of the number
abbrev pub IsEndAt : List Instruction → ℕ → ℕ → Type 0
IsEndAt code k number = (low : ℕ) × (high : ℕ) × (slice_get code k ≡ Some (End low high))
    × (low ≤ number) × (number ≤ high)

-- such an end was read
abbrev pub ReadsEnd : List Instruction → Position → ℕ → Type 0
ReadsEnd code p number = (k : ℕ) × HoldsPlace p.read k × IsEndAt code k number

-- these are the numbers whose marks an end at one of the places takes
abbrev pub AreEndsAt : List Instruction → List ℕ → List ℕ → Type 0
AreEndsAt code places numbers =
    (number : ℕ) → Contains numbers number ↔ ((k : ℕ) × Contains places k × IsEndAt code k number)

-- the program accepts the text with the mark of some number after it
abbrev pub AcceptsMarked : List Instruction → List ℕ → Type 0
AcceptsMarked code text = (number : ℕ) × Accepts code 0 (text ++ mark number ∷ [])
