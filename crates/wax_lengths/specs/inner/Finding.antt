-- Which lengths a function finds, and how often it looks at a character for that.
use Rattle.std.specs.Prelude.{ℕ, ◌+◌, ◌≤◌, List, length}
use Rattle.wax_lengths.specs.{Spans.{AreLengths, looks}, declared.span.LengthSpan.LengthSpan}

-- The span holds the lengths of the beginnings of the text that are taken, and doesn't go past its end. The
-- visits grow by at most `most`, including what picking from the span still looks at.
pub record FindsLengths (Takes : List ℕ → Type 0) (s : List ℕ) (span : LengthSpan)
    (most old new : ℕ) : Type 0 where
  pub lengths : AreLengths Takes s span
  pub end : span.end ≤ length s + 1
  pub looked : new + looks span ≤ old + most
  pub steady : old ≤ new
