-- The lines that a walk writes.
use Rattle.std.specs.{Prelude.{ℕ, Bool, true, false, List, [], ◌∷◌, ◌++◌}, List.flat_map}
use Rattle.wax_walk.specs.Given.{Given, kept, alone, with_tree, entry, fault, no_memory}

-- the candidate of an entry that is kept, with a line feed; nothing for an excluded entry or an error
abbrev pub candidate_line : Given → List ℕ
candidate_line (entry kept f) = f.candidate ++ 10 ∷ []
candidate_line (entry alone f) = []
candidate_line (entry with_tree f) = []
candidate_line (fault kind path depth) = []
candidate_line no_memory = []

-- the lines of these items, one after another
abbrev pub candidate_lines : List Given → List ℕ
candidate_lines xs = flat_map candidate_line xs

abbrev pub is_error : Given → Bool
is_error (entry m f) = false
is_error (fault kind path depth) = true
is_error no_memory = true
