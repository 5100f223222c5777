-- Instructions that take one character.
use Rattle.std.specs.Prelude.{◌≡◌, ◌↔◌, ℕ, Bool, IsTrue, List, Some, slice_get}
use Rattle.wax_program.specs.declared.instruction.Instruction.{Instruction}
use Rattle.wax_program.specs.declared.instruction.Instruction.TheVariants.{Check}
use Rattle.wax_program.specs.{declared.instruction.Test.Test, Machine.PassesTest}

-- the instruction takes one character, and the flag says whether it takes this one
abbrev pub IsCheckOf : Instruction → ℕ → Bool → Type 0
IsCheckOf i c passes = (t : Test) × (i ≡ Check t) × (IsTrue passes ↔ PassesTest t c)

-- this holds of the instruction at a place
abbrev pub IsCheckAt : List Instruction → ℕ → ℕ → Bool → Type 0
IsCheckAt code at c passes = (i : Instruction) × (slice_get code at ≡ Some i) × IsCheckOf i c passes
