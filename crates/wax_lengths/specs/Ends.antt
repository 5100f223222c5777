-- Which beginnings of a text a program accepts, as flags.
use Rattle.std.specs.Prelude.{ℕ, ◌<◌, ◌↔◌, Bool, List, take}
use Rattle.wax_program.specs.{declared.instruction.Instruction.Instruction, Machine.Accepts}
use Rattle.wax_program.specs.Places.{HoldsPlace}

-- of the first `n` beginnings of the text, the empty one first, exactly the accepted ones are flagged
abbrev pub MarksBeginnings : List Instruction → List ℕ → List Bool → ℕ → Type 0
MarksBeginnings code text ends n = (i : ℕ) → i < n → HoldsPlace ends i ↔ Accepts code 0 (take i text)
