-- Whether a text is accepted, and whether one below it is.
use Rattle.std.specs.{Prelude.{◌≡◌, ◌↔◌, IsTrue, List, Option, ℕ, true}, Str.all_scalars}
use Rattle.wax_program.specs.{declared.instruction.Instruction.Instruction, Machine.Accepts}
use Rattle.wax_query.specs.{Below.IsBelowWithin, declared.query.verdict.Verdict.Verdict}

-- some text of something at most so many names below the folder with this text is accepted, one that consists
-- of characters
abbrev pub AcceptsBelow : List Instruction → Option ℕ → List ℕ → Type 0
AcceptsBelow code most folder = (s : List ℕ) × IsBelowWithin most folder s × (all_scalars s ≡ true)
    × Accepts code 0 s

-- both answers are right
pub record IsVerdict (code : List Instruction) (most : Option ℕ) (text : List ℕ) (v : Verdict) : Type 0 where
  pub matches : IsTrue v.is_match ↔ Accepts code 0 text
  pub below : IsTrue v.goes_on ↔ AcceptsBelow code most text
