-- What is read of an expression.
use Rattle.std.specs.Prelude.{◌≡◌, IsUtf8, List, chars, ℕ}
use Rattle.wax.specs.{Language.{Reads, Span, Tokenized, Tree}, Patterns.Spells}

-- the bytes are text that spells the tree of these tokens, which breaks no rule, and no other tree
abbrev pub SpellsOnly : List ℕ → Tokenized Span → Type 0
SpellsOnly bytes tokens =
    IsUtf8 bytes × Spells (chars bytes) tokens.token
    × ((t : Tree Span) → Reads (chars bytes) t → t ≡ tokens.token)

-- the tree is that of the tokens
abbrev pub IsTokenOf : Tokenized Span → Tree Span → Type 0
IsTokenOf tokens t = t ≡ tokens.token
