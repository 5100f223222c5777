-- The texts of what is below a folder.
use Rattle.std.specs.Prelude.{◌≡◌, ℕ, suc, ◌==◌, Bool, true, ⊤, List, [], ◌∷◌, ◌++◌, length, Option, Some}
use Rattle.std.specs.Prelude.{None, if◌then◌else◌}
use Rattle.wax_query.specs.{Components.HasNoSlash, Ranges.AtMost}

-- names, each after a `/`
abbrev pub slashed : List (List ℕ) → List ℕ
slashed [] = []
slashed (n ∷ names) = 47 ∷ (n ++ slashed names)

-- names with a `/` between each two
abbrev pub joined_names : List (List ℕ) → List ℕ
joined_names [] = []
joined_names (n ∷ names) = n ++ slashed names

-- names that aren't empty and hold no `/`
abbrev pub AreNames : List (List ℕ) → Type 0
AreNames [] = ⊤
AreNames (n ∷ names) = ¬ (n ≡ []) × HasNoSlash n × AreNames names

-- one or more names with a `/` between each two
abbrev pub IsPlainPath : List ℕ → Type 0
IsPlainPath s = (names : List (List ℕ)) × AreNames names × ¬ (names ≡ []) × (s ≡ joined_names names)

-- the text is empty or ends with `/`, so that a name below it follows at once
abbrev pub ends_open : List ℕ → Bool
ends_open [] = true
ends_open (c ∷ []) = c == 47
ends_open (c ∷ d ∷ s) = ends_open (d ∷ s)

-- the text of a folder as it begins the texts of what is below it: with a `/` at its end, unless it is empty
abbrev pub folder_text : List ℕ → List ℕ
folder_text folder = if ends_open folder then folder else folder ++ 47 ∷ []

-- the text of something below the folder
abbrev pub IsBelow : List ℕ → List ℕ → Type 0
IsBelow folder s = (path : List ℕ) × IsPlainPath path × (s ≡ folder_text folder ++ path)

-- a plain path of at most so many names, if there is a limit
abbrev pub IsPathWithin : Option ℕ → List ℕ → Type 0
IsPathWithin most s = (names : List (List ℕ)) × AreNames names × ¬ (names ≡ []) × AtMost (length names) most
    × (s ≡ joined_names names)

-- the text of something at most so many names below the folder
abbrev pub IsBelowWithin : Option ℕ → List ℕ → List ℕ → Type 0
IsBelowWithin most folder s = (path : List ℕ) × IsPathWithin most path × (s ≡ folder_text folder ++ path)

-- the limit for one name more
abbrev pub one_more_name : Option ℕ → Option ℕ
one_more_name None = None
one_more_name (Some most) = Some (suc most)
