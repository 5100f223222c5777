-- Names, and the names of a path.
use Rattle.std.specs.Prelude.{ℕ, Bool, true, false, not, ◌&&◌, ◌==◌, List, [], ◌∷◌, filter}
use Rattle.std.specs.{List.{slice_split, list_any}, Str.bytes_eq}

-- neither empty nor `.` nor `..`
abbrev pub is_entry_name : List ℕ → Bool
is_entry_name name = not (bytes_eq name []) &&
    (not (bytes_eq name (46 ∷ [])) && not (bytes_eq name (46 ∷ 46 ∷ [])))

-- a name that a path can hold
abbrev pub is_plain : List ℕ → Bool
is_plain name = is_entry_name name && not (list_any (λ c. c == 47) name)

abbrev pub is_some_name : List ℕ → Bool
is_some_name [] = false
is_some_name (c ∷ name) = true

-- the names of a path: its parts between `/`, without the empty ones
abbrev pub names_in_path : List ℕ → List (List ℕ)
names_in_path path = filter is_some_name (slice_split (λ c. c == 47) path)

-- the path begins with `/`, so it starts at the root
abbrev pub is_rooted : List ℕ → Bool
is_rooted [] = false
is_rooted (c ∷ path) = c == 47

-- no two of these names are equal
abbrev pub are_distinct : List (List ℕ) → Bool
are_distinct [] = true
are_distinct (x ∷ names) = not (list_any (bytes_eq x) names) && are_distinct names
