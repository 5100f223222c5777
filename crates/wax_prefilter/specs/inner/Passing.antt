-- What is known of a program before it is run.
use Rattle.std.specs.Prelude.{ℕ, List}
use Rattle.wax_prefilter.specs.Facts.{PassesFacts, PrefilterView}
use Rattle.wax_program.specs.{Machine.Accepts, declared.instruction.Instruction.Instruction}

-- each text that the instructions accept passes the prefilter
abbrev pub AllPass : List Instruction → PrefilterView → Type 0
AllPass code prefilter = (text : List ℕ) → Accepts code 0 text → PassesFacts prefilter text
