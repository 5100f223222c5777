-- Names of files, as a caller speaks of them.
use Rattle.std.specs.Prelude.{◌≡◌, ℕ, false, List, ◌++◌, codes}
use Rattle.wax.specs.Language.{HasNoSlash, Means, Reads, Span, Tree}

-- the expression spells a tree that means the text
abbrev pub IsMeantBy : List ℕ → List ℕ → Type 0
IsMeantBy expression text = (t : Tree Span) × Reads expression t × Means t false false text

-- the text is the stem, which holds no `/`, and then `.png`
abbrev pub HasStem : List ℕ → List ℕ → Type 0
HasStem text stem = HasNoSlash stem × (text ≡ stem ++ codes ".png")

-- a name that ends with `.png`
abbrev pub IsPictureName : List ℕ → Type 0
IsPictureName text = (stem : List ℕ) × HasStem text stem

-- neither `/` nor `**` is written in the expression
abbrev pub IsOneComponent : List ℕ → Type 0
IsOneComponent expression =
    HasNoSlash expression × ((x y : List ℕ) → expression ≡ x ++ codes "**" ++ y → ⊥)
