-- Instructions that read one component.
use Rattle.std.specs.Prelude.{◌≡◌, ◌+◌, ◌≤◌, ℕ, List, Some, slice_get, ⊤}
use Rattle.wax_program.specs.declared.instruction.Instruction.{Instruction}
use Rattle.wax_program.specs.declared.instruction.Instruction.TheVariants.{Check, Repeat, Components, Fork}
use Rattle.wax_program.specs.declared.instruction.Instruction.TheVariants.{Jump, Back, End}
use Rattle.wax_program.specs.Machine.{PassesTest}

-- the instruction at k takes no `/`, and leads to no place before 2 from any after it
abbrev pub StaysInName : Instruction → ℕ → Type 0
StaysInName (Check t) k = PassesTest t 47 → ⊥
StaysInName (Repeat t) k = PassesTest t 47 → ⊥
StaysInName Components k = ⊥
StaysInName (Fork n) k = ⊤
StaysInName (Jump n) k = ⊤
StaysInName (Back n) k = n + 2 ≤ k
StaysInName (End low high) k = ⊤

-- so do all from the place 2 on and before another
abbrev pub StayInName : List Instruction → ℕ → Type 0
StayInName code end =
    (k : ℕ) (i : Instruction) → 2 ≤ k → k + 1 ≤ end → slice_get code k ≡ Some i → StaysInName i k
