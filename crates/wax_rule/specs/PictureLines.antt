-- The lines of a picture, and the columns of its marks.
use Rattle.std.specs.Prelude.{◌≡◌, ◌≢◌, ◌↔◌, ◌⊎◌, ℕ, ◌+◌, ◌^◌, ◌<◌, ◌≤◌, ◌==◌, if◌then◌else◌, List, [], ◌∷◌}
use Rattle.std.specs.{Prelude.{◌++◌, All, codes, encode_utf8_all, length, replicate, take}, Char.is_control}
use Rattle.std.specs.List.{AllZip, slice_split}
use Rattle.wax_query.specs.{Labels.Label, Spans.{Span, end_of}}
use Rattle.wax_token.specs.Reads.{utf8_len}
use Rattle.wax_rule.specs.Drawn.{picture}

-- a control character is drawn as `?`, any other as itself
abbrev pub IsDrawnAs : ℕ → ℕ → Type 0
IsDrawnAs c drawn = drawn ≡ (if is_control c then 63 else c)

-- the byte at which the character of a column begins
abbrev pub byte_of_column : List ℕ → ℕ → ℕ
byte_of_column expression column = utf8_len (take column expression)

-- the character of the column begins in the span
pub record IsInSpan (expression : List ℕ) (span : Span) (column : ℕ) : Type 0 where
  pub has_character : column < length expression
  pub from : span.0 ≤ byte_of_column expression column
  pub before : byte_of_column expression column < end_of span

-- exactly the characters in the columns before this one begin before the byte
pub record IsColumnOf (expression : List ℕ) (byte column : ℕ) : Type 0 where
  pub at_most : column ≤ length expression
  pub exactly : (k : ℕ) → k < length expression → (k < column) ↔ (byte_of_column expression k < byte)

-- a `^` is in the columns of the span's characters; if it has none, in the column where the span begins
abbrev pub HasCaret : List ℕ → Span → ℕ → Type 0
HasCaret expression span column = IsInSpan expression span column
    ⊎ (((k : ℕ) → ¬ (IsInSpan expression span k)) × IsColumnOf expression span.0 column)

-- the line of a label: blanks, a `^` in each column that has one, a blank, and the label's text
pub record IsLabelLine (expression : List ℕ) (label : Label) (line : List ℕ) : Type 0 where
  pub blanks : ℕ
  pub carets : ℕ
  pub whole : line ≡ replicate blanks 32 ++ replicate carets 94 ++ codes " " ++ label.0
  pub marked : (column : ℕ)
      → ((blanks ≤ column) × (column < blanks + carets)) ↔ HasCaret expression label.1 column

-- split at its line feeds, the text is the drawn expression, a line for each label, and nothing after them
pub record ShowsLabels (expression : List ℕ) (labels : List Label) (text : List ℕ) : Type 0 where
  pub drawn : List ℕ
  pub lines : List (List ℕ)
  pub split : slice_split (λ b. b == 10) text ≡ encode_utf8_all drawn ∷ lines ++ [] ∷ []
  pub each_character : AllZip IsDrawnAs expression drawn
  pub each_label : AllZip (IsLabelLine expression) labels lines

abbrev pub HasNoLineFeed : Label → Type 0
HasNoLineFeed label = All (λ b. b ≢ 10) label.0

-- for labels without line feeds, and expressions of fewer than 2 ^ 64 bytes, as all that fit in memory: a
-- text is the picture exactly if it shows the labels
abbrev pub PicturesShow : Type 0
PicturesShow = (expression : List ℕ) (labels : List Label) (text : List ℕ)
    → utf8_len expression < 2 ^ 64 → All HasNoLineFeed labels
    → (text ≡ picture expression labels) ↔ ShowsLabels expression labels text
