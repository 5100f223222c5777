-- How the texts of a prefix and of a rest are joined.
use Rattle.std.specs.Prelude.{◌≡◌, ℕ, Bool, true, false, ◌⊎◌, List, [], ◌∷◌, ◌++◌, ◌==◌, if◌then◌else◌}
use Rattle.wax_token.specs.Syntax.{leaf, alternation, concatenation, repetition, Trees, none, more}
use Rattle.wax_query.specs.Components.{BeginsWithSlash, EndsWithSlash}

-- the text begins with the prefix
abbrev pub Front : List ℕ → List ℕ → Type 0
Front p s = (q : List ℕ) × (s ≡ p ++ q)

-- two parts of a path, with one `/` between them unless the first is empty or ends with one
abbrev pub path : List ℕ → List ℕ → List ℕ
path [] r = r
path (c ∷ []) r = if c == 47 then c ∷ r else c ∷ 47 ∷ r
path (c ∷ d ∷ p) r = c ∷ path (d ∷ p) r

-- there is a `/` next to the border, unless one side is empty
abbrev pub IsSeam : List ℕ → List ℕ → Type 0
IsSeam p q = ((p ≡ []) ⊎ EndsWithSlash p) ⊎ ((q ≡ []) ⊎ BeginsWithSlash q)

-- the first token is a leaf
abbrev pub begins_with_leaf : {A : Type 0} → Trees A → Bool
begins_with_leaf none = false
begins_with_leaf (more (leaf a l) ts) = true
begins_with_leaf (more (alternation a us) ts) = false
begins_with_leaf (more (concatenation a us) ts) = false
begins_with_leaf (more (repetition a t low high) ts) = false
