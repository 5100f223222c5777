-- The lines of an ignore list's text.
use Rattle.std.specs.Prelude.{ℕ, ◌+◌, ◌==◌, Bool, true, false, if◌then◌else◌, List, [], ◌∷◌, ◌++◌, drop}
use Rattle.std.specs.List.{slice_split}
use Rattle.wax_exclude.specs.declared.lines.WrittenLine.{WrittenLine}

-- a line that isn't skipped: its number from 1, with skipped lines counted; whether it ignores what its glob
-- matches or re-includes it; and the glob's expression, as bytes
pub record Written : Type 0 where
  pub number : ℕ
  pub ignores : Bool
  pub expression : List ℕ

abbrev pub written_of : WrittenLine → Written
written_of line = record {
  number = line.number;
  ignores = line.ignores;
  expression = line.expression.now;
}

-- the parts of a text between its line feeds
abbrev pub between_feeds : List ℕ → List (List ℕ)
between_feeds text = slice_split (λ b. b == 10) text

-- the line without a carriage return at its end
abbrev pub without_return : List ℕ → List ℕ
without_return [] = []
without_return (b ∷ []) = if b == 13 then [] else b ∷ []
without_return (b ∷ c ∷ line) = b ∷ without_return (c ∷ line)

-- a line that is empty or begins with `#`
abbrev pub is_skipped : List ℕ → Bool
is_skipped [] = true
is_skipped (b ∷ line) = b == 35

-- a line that begins with `!`
abbrev pub reincludes : List ℕ → Bool
reincludes [] = false
reincludes (b ∷ line) = b == 33

-- a line with this number that isn't skipped
abbrev pub said_at : ℕ → List ℕ → Written
said_at number line =
    if reincludes line then record { number = number; ignores = false; expression = drop 1 line }
    else record { number = number; ignores = true; expression = line }

-- the line between two line feeds, or none if it is skipped
abbrev pub line_at : ℕ → List ℕ → List Written
line_at number part =
    let line = without_return part in if is_skipped line then [] else said_at number line ∷ []

-- the lines of these parts, of which the first has this number
abbrev pub lines_from : ℕ → List (List ℕ) → List Written
lines_from number [] = []
lines_from number (part ∷ parts) = line_at number part ++ lines_from (number + 1) parts

-- the lines of a list's text that aren't skipped
abbrev pub written_lines : List ℕ → List Written
written_lines text = lines_from 1 (between_feeds text)
