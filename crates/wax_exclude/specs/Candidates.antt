-- Candidates of walks, by their names.
use Rattle.std.specs.Prelude.{◌≡◌, ℕ, Bool, true, false, ◌⊎◌, List, [], ◌∷◌, ◌++◌, length}
use Rattle.wax_directory.specs.Names.{names_in_path}
use Rattle.wax_query.specs.Below.{ends_open, joined_names}
use Rattle.wax_walk.specs.Candidates.{Candidate}

-- the candidate of the start: empty, and `/` in a walk from the root
abbrev pub base : Bool → List ℕ
base true = 47 ∷ []
base false = []

-- the candidate of these names, in a walk from the root or not
abbrev pub text_at : Bool → List (List ℕ) → List ℕ
text_at rooted names = base rooted ++ joined_names names

-- the candidate of an entry with these names
abbrev pub candidate_at : Bool → List (List ℕ) → Candidate
candidate_at rooted names = record { names = names; text = text_at rooted names; depth = length names }

-- the candidate of a folder with this text
abbrev pub folder_at : List ℕ → Candidate
folder_at s = record { names = names_in_path s; text = s; depth = length (names_in_path s) }

-- no `/` follows the last name of the text, if it has one
abbrev pub NoSlashAfterNames : List ℕ → Type 0
NoSlashAfterNames s = (names_in_path s ≡ []) ⊎ (ends_open s ≡ false)
