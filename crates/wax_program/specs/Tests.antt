-- The tests that instructions have.
use Rattle.std.specs.Prelude.{◌≡◌, ℕ, List, Option, Some, None, slice_get}
use Rattle.wax_program.specs.{declared.instruction.Test.Test, declared.instruction.Instruction.Instruction}
use Rattle.wax_program.specs.declared.instruction.Instruction.TheVariants.{Check, Repeat, Components, Fork}
use Rattle.wax_program.specs.declared.instruction.Instruction.TheVariants.{Jump, Back, End}

-- the test that the instruction has
abbrev pub test_of : Instruction → Option Test
test_of (Check t) = Some t
test_of (Repeat t) = Some t
test_of Components = None
test_of (Fork n) = None
test_of (Jump n) = None
test_of (Back n) = None
test_of (End low high) = None

-- this is the test of the instruction at the place, if there is one
abbrev pub IsTestAt : List Instruction → ℕ → Option Test → Type 0
IsTestAt code at found = (i : Instruction) → slice_get code at ≡ Some i → found ≡ test_of i
