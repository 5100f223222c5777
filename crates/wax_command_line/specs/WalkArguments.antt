-- How the arguments of a walk are read.
use Rattle.std.specs.Prelude.{◌≡◌, List, ◌∷◌, Option, Some, String, string_bytes}
use Rattle.wax_tree.specs.Depths.{greatest, least}
use Rattle.wax_command_line.specs.Commands.{IsOption, WalkOption, excluding, ignoring, at_least, at_most}
use Rattle.wax_command_line.specs.Commands.{WalkRequest, SayEach, greatest_in, least_in}
use Rattle.wax_command_line.specs.declared.walk_words.WalkOption.{WalkOption as ReadOption}
use Rattle.wax_command_line.specs.declared.walk_words.WalkOption.TheVariants.{Not, Ignore, Min, Max}
use Rattle.wax_command_line.specs.declared.walk_words.WalkArguments.{WalkArguments}

-- what an option asks for
abbrev pub asked_by : ReadOption → WalkOption
asked_by (Not expression) = excluding expression.now
asked_by (Ignore file) = ignoring file.now
asked_by (Min n) = at_least n
asked_by (Max n) = at_most n

-- the arguments spell this option, and then come the rest
abbrev pub IsNext : {A : Type 0} → List (Option (String A)) → WalkOption → List (Option (String A)) → Type 0
IsNext (Some name ∷ Some word ∷ words) o rest =
    IsOption (string_bytes name) (string_bytes word) o × (rest ≡ words)
IsNext _ o rest = ⊥

-- the arguments begin with no option
abbrev pub HasNoNext : {A : Type 0} → List (Option (String A)) → Type 0
HasNoNext {A} words = (o : WalkOption) (rest : List (Option (String A))) → IsNext words o rest → ⊥

-- what was read from the arguments is what they request
pub record IsRead (walk : WalkArguments) (asked : WalkRequest) : Type 0 where
  pub start : walk.start.now ≡ asked.start
  pub expression : walk.expression.now ≡ asked.expression
  pub options : SayEach walk.options.now asked.options
  pub lower : least walk.depth ≡ least_in asked.options
  pub upper : greatest walk.depth ≡ greatest_in asked.options
