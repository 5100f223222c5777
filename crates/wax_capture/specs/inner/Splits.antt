-- How pieces split a text: by nothing but their forms.
use Rattle.std.specs.Prelude.{◌≡◌, ℕ, ◌+◌, ◌*◌, ◌≤◌, List, [], ◌∷◌, ◌++◌, length, map, take, drop}
use Rattle.wax_lengths.specs.Prefers.{Prefers}
use Rattle.wax_capture.specs.Pieces.{WayOf, captured_by, forms_of, size_of, skipped_by}
use Rattle.wax_capture.specs.{declared.piece.Capture.Capture, declared.piece.Piece.Piece}

-- each piece takes a part of the text, one after another
abbrev pub Splits : List Piece → List ℕ → Type 0
Splits [] s = s ≡ []
Splits (p ∷ ps) s = (k : ℕ) × (n : ℕ) × (n ≤ length s) × WayOf p k (take n s) × Splits ps (drop n s)

-- the first n characters can be the part of the first piece, by its k-th form
abbrev pub FitsBy : Piece → List Piece → List ℕ → ℕ → ℕ → Type 0
FitsBy p ps s k n = (n ≤ length s) × WayOf p k (take n s) × Splits ps (drop n s)

pub record IsChosenBy (p : Piece) (ps : List Piece) (s : List ℕ) (n : ℕ) : Type 0 where
  pub way : ℕ
  pub fits : FitsBy p ps s way n
  pub first : (k m : ℕ) → FitsBy p ps s k m → way ≤ k
  pub best : (m : ℕ) → FitsBy p ps s way m → Prefers p.is_lazy n m

-- the pieces' lengths, one after another
abbrev pub AreChosen : List Piece → List ℕ → List ℕ → Type 0
AreChosen [] s [] = s ≡ []
AreChosen [] s (n ∷ ns) = ⊥
AreChosen (p ∷ ps) s [] = ⊥
AreChosen (p ∷ ps) s (n ∷ ns) = IsChosenBy p ps s n × AreChosen ps (drop n s) ns

abbrev pub CapturedBy : List Piece → List ℕ → List (List ℕ) → Type 0
CapturedBy [] s captures = (s ≡ []) × (captures ≡ [])
CapturedBy (p ∷ ps) s captures =
    (n : ℕ) × IsChosenBy p ps s n
    × (others : List (List ℕ)) × CapturedBy ps (drop n s) others
    × (captures ≡ captured_by p.capture (take n s) ++ others)

-- where what is captured of a piece lies that begins at this place: its beginning and its end in characters
abbrev pub placed_by : Capture → ℕ → List ℕ → List (ℕ × ℕ)
placed_by capture at x =
    let start : ℕ = at + length (take (skipped_by capture) x) in
    map (λ y. (start, start + length y)) (captured_by capture x)

-- where what the pieces capture lies, if the first one begins at this place
abbrev pub PlacedBy : List Piece → ℕ → List ℕ → List (ℕ × ℕ) → Type 0
PlacedBy [] at s places = (s ≡ []) × (places ≡ [])
PlacedBy (p ∷ ps) at s places =
    (n : ℕ) × IsChosenBy p ps s n
    × (others : List (ℕ × ℕ)) × PlacedBy ps (at + n) (drop n s) others
    × (places ≡ placed_by p.capture at (take n s) ++ others)

-- how much all pieces come to
abbrev pub all_sizes : List Piece → ℕ
all_sizes [] = 0
all_sizes (p ∷ ps) = size_of (forms_of p.ways) + all_sizes ps

-- how many visits pieces that come to this take for a text of so many characters: a trial, and then the table
abbrev pub split_visits : ℕ → ℕ → ℕ
split_visits all m = 2 * (all * ((m + 1) * (m + 1))) + 2 * (all * (m + 1))
