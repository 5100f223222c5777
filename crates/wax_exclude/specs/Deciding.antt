-- Which line of an ignore list decides whether a path is ignored.
use Rattle.std.specs.Prelude.{◌≡◌, ◌↔◌, ℕ, Bool, true, false, IsTrue, List, ◌∷◌, ◌++◌, Option, Some, None}
use Rattle.std.specs.Prelude.{All, [], slice_get}
use Rattle.wax_exclude.specs.{Idle.LineMeans, Ignored.{Line, is_ignored}}
use Rattle.wax_lazy.specs.Numbers.{IsLastWhere}
use Rattle.wax_program.specs.{Machine.{Accepts, mark}, declared.instruction.Instruction.Instruction}
use Rattle.wax_token.specs.{Meaning.Means, Reads.Span}

-- the line is the last one of the list that matches the text
pub record IsLastMatch {A : Type 0} (lines : List (Line A)) (s : List ℕ) (line : Line A) : Type 0 where
  pub before : List (Line A)
  pub after : List (Line A)
  pub split : lines ≡ before ++ line ∷ after
  pub matches : Means line.glob false false s
  pub is_last : All (λ later. ¬ (Means later.glob false false s)) after

-- a list ignores a text exactly if its last line that matches the text has no `!`; so not if no line matches
abbrev pub LastMatchDecides : Type 0
LastMatchDecides = (lines : List (Line Span)) (s : List ℕ) → IsTrue (is_ignored lines s)
    ↔ ((line : Line Span) × IsLastMatch lines s line × (line.ignores ≡ true))

-- the index of the last line that matches the text, or none, if no line does
abbrev pub IsDecidingLine : {A : Type 0} → List (Line A) → List ℕ → Option ℕ → Type 0
IsDecidingLine lines s = IsLastWhere (λ index. LineMeans lines index s)

-- the program accepts a text with the indexes of the lines that match it
abbrev pub SaysLines : {A : Type 0} → List (Line A) → List Instruction → Type 0
SaysLines lines code = (index : ℕ) (s : List ℕ)
    → Accepts code 0 (s ++ mark index ∷ []) ↔ LineMeans lines index s

-- whether the line ignores, if there is one
abbrev pub ignores_if : {A : Type 0} → Option (Line A) → Bool
ignores_if None = false
ignores_if (Some line) = line.ignores

-- whether the line with this index ignores, if there is one
abbrev pub ignores_at : {A : Type 0} → List (Line A) → Option ℕ → Bool
ignores_at lines None = false
ignores_at lines (Some index) = ignores_if (slice_get lines index)

-- this line decides
abbrev pub DecidingLineDecides : Type 0
DecidingLineDecides = (lines : List (Line Span)) (s : List ℕ) (found : Option ℕ)
    → IsDecidingLine lines s found → is_ignored lines s ≡ ignores_at lines found
