-- Paths that are a folder or below it.
use Rattle.std.specs.Prelude.{◌≡◌, ◌⊎◌, ℕ, List, [], ◌++◌}
use Rattle.wax_query.specs.Components.{BeginsWithSlash}

-- the text is the folder, or begins with the folder and a slash
abbrev pub IsInFolder : List ℕ → List ℕ → Type 0
IsInFolder folder text = (rest : List ℕ) × (text ≡ folder ++ rest) × ((rest ≡ []) ⊎ BeginsWithSlash rest)
