-- The instructions of leads.
use Rattle.std.specs.Prelude.{true, false, List, [], ◌∷◌, chars}
use Rattle.wax_match.specs.declared.encode.left.Gap.{Gap}
use Rattle.wax_match.specs.declared.encode.left.Gap.TheVariants.{Nothing, Star, Folders, Below, Anything}
use Rattle.wax_match.specs.declared.encode.left.Lead.{Lead}
use Rattle.wax_match.specs.declared.encode.left.Lead.TheVariants.{Letters, Wild, Token}
use Rattle.wax_match.specs.inner.Code.{instructions_of, literal_code, wildcard_code}
use Rattle.wax_program.specs.declared.instruction.Instruction.{Instruction}
use Rattle.wax_program.specs.declared.instruction.Instruction.TheVariants.{Repeat}
use Rattle.wax_program.specs.declared.instruction.Test.TheVariants.{NotSlash}

abbrev pub gap_code : Gap → List Instruction
gap_code Nothing = []
gap_code Star = Repeat NotSlash ∷ []
gap_code Folders = wildcard_code false true false
gap_code Below = wildcard_code true false false
gap_code Anything = wildcard_code false false false

abbrev pub lead_code : Lead → List Instruction
lead_code (Letters text) = literal_code false (chars text.now)
lead_code (Wild gap) = gap_code gap
lead_code (Token token sides) = instructions_of token.now sides.before sides.after
