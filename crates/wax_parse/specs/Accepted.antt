-- The places that a refused expression can be refused at.
use Rattle.std.specs.{Prelude.{◌≡◌, ℕ, List, [], ◌∷◌, ◌++◌}, Char.len_utf8}
use Rattle.wax_token.specs.Reads.{Span, utf8_len}

abbrev pub first_len : List ℕ → ℕ
first_len [] = 0
first_len (c ∷ cs) = len_utf8 c

-- an edge between characters, and the length of the character that follows
abbrev pub IsPlace : List ℕ → Span → Type 0
IsPlace e s = (x y : List ℕ) × (e ≡ x ++ y) × (s ≡ (utf8_len x, first_len y))
