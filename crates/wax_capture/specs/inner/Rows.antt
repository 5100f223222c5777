-- Rows of the places of a text: how many characters a piece takes there.
use Rattle.std.specs.Prelude.{◌≡◌, ℕ, ◌+◌, ◌-◌, ◌≤◌, true, List, [], ◌∷◌, length, take, drop, Option, Some}
use Rattle.std.specs.{Prelude.{None, is_some, slice_get, slice_index_or}, Global.Vec}
use Rattle.wax_lengths.specs.{Forms.TakenBy, declared.form.Form.Form}
use Rattle.wax_capture.specs.{inner.Splits.{IsChosenBy, Splits}, declared.piece.Piece.Piece}

-- n characters are chosen for the first piece; where there is no piece, nothing is left of the text
abbrev pub TakesPiece : List Piece → List ℕ → ℕ → Type 0
TakesPiece [] s n = s ≡ []
TakesPiece (p ∷ ps) s n = IsChosenBy p ps s n

-- how many characters are chosen for the first piece, or nothing where the pieces don't split the text
abbrev pub IsCell : List Piece → List ℕ → Option ℕ → Type 0
IsCell ps s None = Splits ps s → ⊥
IsCell ps s (Some n) = TakesPiece ps s n

-- the cell of each place, for what is left of the text there
abbrev pub Row : List Piece → List ℕ → List (Option ℕ) → Type 0
Row ps s cells = (n : ℕ) → n ≤ length s → IsCell ps (drop n s) (slice_index_or cells n None)

-- the cell of the place isn't empty
abbrev pub IsFilled : List (Option ℕ) → ℕ → Type 0
IsFilled cells n = is_some (slice_index_or cells n None) ≡ true

-- the form takes n characters, and the cell after them isn't empty, where what is left of the text begins at
-- `at`
abbrev pub FitsIn : Form → List ℕ → List (Option ℕ) → ℕ → ℕ → Type 0
FitsIn form s cells at n = (n ≤ length s) × TakenBy form (take n s) × IsFilled cells (at + n)

-- the rows of the last pieces: the j-th is that of the last j
abbrev pub ArePieceRows : List Piece → List ℕ → List (Vec (Option ℕ)) → Type 0
ArePieceRows ps s rows =
    (j : ℕ) (row : Vec (Option ℕ)) → slice_get rows j ≡ Some row
    → Row (drop (length ps - j) ps) s row.items × (length row.items ≡ length s + 1)
