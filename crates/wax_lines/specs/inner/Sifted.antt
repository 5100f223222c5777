-- How far a filter of lines has come. Only private functions cite this file.
use Rattle.std.specs.Prelude.{◌≡◌, ◌≢◌, ◌≤◌, ◌<◌, ◌⊎◌, ◌==◌, ℕ, ◌+◌, ◌-◌, Bool, List, [], ◌∷◌, ◌++◌, All}
use Rattle.std.specs.{Prelude.{length, slice_index}, Io.Iter.u64_saturate}
use Rattle.wax_lines.specs.Lines.{Filters}

-- the byte is a line feed
abbrev pub is_feed : ℕ → Bool
is_feed b = b == 10

-- the bytes have no line feed
abbrev pub HasNoNewline : List ℕ → Type 0
HasNoNewline bytes = All (λ b. b ≢ 10) bytes

-- the place is the beginning, or follows a line feed
abbrev pub IsAfterFeed : ℕ → List ℕ → Type 0
IsAfterFeed at bytes = (at ≤ length bytes) × (0 < at → slice_index bytes (at - 1) ≡ 10)

-- there are no bytes, or a line feed is the last of them
abbrev pub EndsLines : List ℕ → Type 0
EndsLines bytes = (bytes ≡ []) ⊎ ((front : List ℕ) × (bytes ≡ front ++ 10 ∷ []))

-- each line, followed by a line feed
abbrev pub lines_text : List (List ℕ) → List ℕ
lines_text [] = []
lines_text (line ∷ rest) = line ++ 10 ∷ lines_text rest

-- a count that stops at the greatest u64 grew by m
abbrev pub CountsMore : ℕ → ℕ → ℕ → Type 0
CountsMore old new m = (n : ℕ) → old ≡ u64_saturate n → new ≡ u64_saturate (n + m)

-- The bytes that were taken are whole lines and then the carry, and the output of the lines is what was
-- written and then what waits.
pub record Sifted (Writes : List ℕ → List ℕ → Type 0) (taken written carry waiting : List ℕ)
    (counted : ℕ) : Type 0 where
  pub whole : List (List ℕ)
  pub bad : ℕ
  pub splits : taken ≡ lines_text whole ++ carry
  pub are_lines : All HasNoNewline whole
  pub is_open : HasNoNewline carry
  pub filters : Filters Writes whole (written ++ waiting) bad
  pub counts : counted ≡ u64_saturate bad
