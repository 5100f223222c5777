-- The components of a path text, which `/` parts.
use Rattle.std.specs.Prelude.{◌≡◌, ◌≢◌, ℕ, ◌+◌, ◌-◌, ◌==◌, List, [], ◌∷◌, ◌++◌, if◌then◌else◌, ⊤}

abbrev pub slash : ℕ → ℕ
slash c = if c == 47 then 1 else 0

abbrev pub slashes : List ℕ → ℕ
slashes [] = 0
slashes (c ∷ s) = slash c + slashes s

abbrev pub first_slash : List ℕ → ℕ
first_slash [] = 0
first_slash (c ∷ s) = slash c

abbrev pub last_slash : List ℕ → ℕ
last_slash [] = 0
last_slash (c ∷ []) = slash c
last_slash (c ∷ d ∷ s) = last_slash (d ∷ s)

-- the number of components, where a `/` at an end parts none
abbrev pub component_total : List ℕ → ℕ
component_total [] = 0
component_total (c ∷ s) = slashes (c ∷ s) + 1 - first_slash (c ∷ s) - last_slash (c ∷ s)

abbrev pub BeginsWithSlash : List ℕ → Type 0
BeginsWithSlash s = (t : List ℕ) × (s ≡ 47 ∷ t)

abbrev pub EndsWithSlash : List ℕ → Type 0
EndsWithSlash s = (t : List ℕ) × (s ≡ t ++ 47 ∷ [])

-- not empty, and without a `/` at an end
abbrev pub Bare : List ℕ → Type 0
Bare s = (s ≢ []) × (BeginsWithSlash s → ⊥) × (EndsWithSlash s → ⊥)

abbrev pub HasNoSlash : List ℕ → Type 0
HasNoSlash [] = ⊤
HasNoSlash (c ∷ s) = (c ≢ 47) × HasNoSlash s
