-- Programs of several patterns whose ends take no marks.
use Rattle.std.specs.Prelude.{◌≡◌, ◌+◌, ◌<◌, ◌≤◌, ◌⊎◌, ℕ, List, Some, length, slice_get}
use Rattle.wax_program.specs.declared.instruction.Instruction.{Instruction}
use Rattle.wax_program.specs.declared.instruction.Instruction.TheVariants.{Check, Repeat, Components, Fork}
use Rattle.wax_program.specs.declared.instruction.Instruction.TheVariants.{Jump, Back, End}
use Rattle.wax_program.specs.declared.instruction.Test.TheVariants.{Never}

-- what is instead of an end, at a place of a program of so many instructions: a jump to the end of the
-- program, or a check that no character passes where the end takes no mark
abbrev pub ReplacesEnd : ℕ → ℕ → ℕ → ℕ → Instruction → Type 0
ReplacesEnd size k low high new =
    ((low ≤ high) × (n : ℕ) × (new ≡ Jump n) × (k + 1 + n ≡ size)) ⊎ ((high < low) × (new ≡ Check Never))

-- what is instead of an instruction, which is kept unless it is an end
abbrev pub Replaces : ℕ → ℕ → Instruction → Instruction → Type 0
Replaces size k (Check t) new = new ≡ Check t
Replaces size k (Repeat t) new = new ≡ Repeat t
Replaces size k Components new = new ≡ Components
Replaces size k (Fork n) new = new ≡ Fork n
Replaces size k (Jump n) new = new ≡ Jump n
Replaces size k (Back n) new = new ≡ Back n
Replaces size k (End low high) new = ReplacesEnd size k low high new

-- the instruction is instead of that of the program at this place
abbrev pub ReplacesAt : List Instruction → ℕ → Instruction → Type 0
ReplacesAt code k new = (i : Instruction) → slice_get code k ≡ Some i → Replaces (length code) k i new

-- each instruction is instead of that of the program at the same place
abbrev pub ReplaceEach : List Instruction → List Instruction → Type 0
ReplaceEach code new = (k : ℕ) (j : Instruction) → slice_get new k ≡ Some j → ReplacesAt code k j
