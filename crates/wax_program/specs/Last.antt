-- Programs for which only the last component of a text matters.
use Rattle.std.specs.{Prelude.{◌≡◌, ◌+◌, ◌*◌, ◌≤◌, ◌⊎◌, ◌↔◌, ◌++◌, ◌∷◌, List, ℕ, length}, Str.chars}
use Rattle.wax_program.specs.{declared.instruction.Instruction.Instruction, Machine.Accepts}
use Rattle.wax_token.specs.Meaning.{HasNoSlash}

-- a text without `/` is accepted exactly where it is from the place 2 on
abbrev pub ReadsName : List Instruction → List ℕ → Type 0
ReadsName code name = Accepts code 0 name ↔ Accepts code 2 name

-- and so is any text by what follows its last `/`
abbrev pub ReadsLast : List Instruction → Type 0
ReadsLast code = (before name : List ℕ) → HasNoSlash name
    → ReadsName code name × (Accepts code 0 (before ++ 47 ∷ name) ↔ Accepts code 2 name)

-- the name is what follows the last `/` of the text, or all of it
abbrev pub IsLastName : List ℕ → List ℕ → Type 0
IsLastName text name =
    HasNoSlash name × ((text ≡ name) ⊎ ((before : List ℕ) × (text ≡ before ++ 47 ∷ name)))

-- what stands before the end of the text has no more characters than bytes, and a fourth of them at least
pub record IsCutBetween (text rest : List ℕ) : Type 0 where
  pub bytes : length rest ≤ length text
  pub least : length (chars text) + length rest ≤ length text + length (chars rest)
  pub most : length text + 4 * length (chars rest) ≤ length rest + 4 * length (chars text)
