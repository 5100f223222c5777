-- How many visits a matcher takes. The states of a program of fewer than 256 instructions have no failure
-- states.
use Rattle.std.specs.Prelude.{◌+◌, ◌*◌, ℕ, List, None, Option, Some, cond, length, nat_lt}
use Rattle.wax_program.specs.declared.instruction.Instruction.{Instruction}

-- to follow a character, or to end a text: as many as the program has instructions, and one more; nine times
-- as many in a large program
unfoldable pub char_visits : List Instruction → ℕ
char_visits code = cond (nat_lt (length code) 256) (length code + 1) (9 * (length code + 1))

-- to find the letters of a large program, at its first text past ASCII
unfoldable pub letters_visits : List Instruction → ℕ
letters_visits code = cond (nat_lt (length code) 256) 0 (length code)

-- to follow a text of so many characters
abbrev pub text_visits : List Instruction → ℕ → ℕ
text_visits code n = char_visits code * n + letters_visits code

-- to match a text of so many characters
abbrev pub match_visits : List Instruction → ℕ → ℕ
match_visits code n = char_visits code * (n + 1)

-- to find the numbers of the patterns that match a text of so many characters
abbrev pub list_visits : List Instruction → ℕ → ℕ
list_visits code n = match_visits code n + (length code + 1)

-- to step from places of a state, and to find or add the state of those that are reached
abbrev pub step_visits : List Instruction → ℕ
step_visits code = 3 * length code + 1

-- to fill a cell, also those of failure states
unfoldable pub fill_visits : List Instruction → ℕ
fill_visits code = cond (nat_lt (length code) 256) (length code + 1) (7 * length code + 2)

-- to find whether a text may end in a state
unfoldable pub end_visits : List Instruction → ℕ
end_visits code = cond (nat_lt (length code) 256) (length code) (3 * length code)

-- to find the numbers of the patterns as which a text may end in a state
unfoldable pub numbers_visits : List Instruction → ℕ
numbers_visits code = cond (nat_lt (length code) 256) (2 * length code + 1) (5 * length code + 2)

-- a matcher keeps at most so many states
abbrev pub most_kept : ℕ
most_kept = 65533

-- ---- the same for a program of this length, which exceeds the number of its instructions
-- to match a path of so many characters
unfoldable pub path_visits : ℕ → ℕ → ℕ
path_visits len n = cond (nat_lt 256 len) (9 * len) len * (n + 1)

-- to find first what leads on, with any number of names, or for each limit up to the greatest one
unfoldable pub first_visits : ℕ → Option ℕ → ℕ
first_visits len None = 12 * len
first_visits len (Some most) = 12 * len * (most + 1)
