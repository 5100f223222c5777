-- How many visits it takes to find what may follow from the places of a program on.
use Rattle.std.specs.Prelude.{◌+◌, ◌*◌, ℕ, List, Option, None, Some, length}
use Rattle.wax_program.specs.declared.instruction.Instruction.{Instruction}

-- to find the flags of a program's places
unfoldable pub flags_visits : List Instruction → ℕ
flags_visits code = 11 * (length code + 1)

-- without a limit of names, or for each limit up to the greatest number of names
abbrev pub onward_visits : List Instruction → Option ℕ → ℕ
onward_visits code None = length code + flags_visits code
onward_visits code (Some most) = length code + flags_visits code * (most + 1)
