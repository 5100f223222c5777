-- What a tree is compiled to.
use Rattle.std.specs.Prelude.{◌≡◌, ◌↔◌, ◌<◌, ◌≤◌, ℕ, false, List, length}
use Rattle.wax_program.specs.{Machine.Accepts, declared.instruction.Instruction.Instruction}
use Rattle.wax_token.specs.{Cost.program_length, Meaning.Means, Syntax.Tree}

-- the instructions of a program, and its length
abbrev pub Instructions : Type 0
Instructions = List Instruction × ℕ

-- The program accepts exactly the texts that the tree matches, with nothing around it; its length is
-- `program_length`, which is within the limit and exceeds the number of instructions.
pub record IsCompiled {A : Type 0} (t : Tree A) (program : Instructions) : Type 0 where
  pub accepts : (text : List ℕ) → Accepts program.0 0 text ↔ Means t false false text
  pub len : program.1 ≡ program_length t
  pub fits : program_length t ≤ 1048576
  pub longer : length program.0 < program.1

-- The program accepts the same texts as the other one, and has the same length, which exceeds the number of
-- its instructions, too.
pub record AcceptsAlike (old new : Instructions) : Type 0 where
  pub accepts : (text : List ℕ) → Accepts new.0 0 text ↔ Accepts old.0 0 text
  pub len : new.1 ≡ old.1
  pub longer : length old.0 < old.1 → length new.0 < new.1
