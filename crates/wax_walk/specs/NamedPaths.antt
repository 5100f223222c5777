-- The texts of the entry that some names lead to.
use Rattle.std.specs.{Prelude.{◌≡◌, ℕ, List, [], ◌∷◌, All}, List.join_with_byte}
use Rattle.wax_directory.specs.Shown.{IsPlain, join}
use Rattle.wax_walk.specs.Paths.{PathTexts, item_texts}

-- the texts of a start: its candidate is empty
abbrev pub start_texts : List ℕ → PathTexts
start_texts start = record { path = start; root = start; candidate = [] }

-- the texts after each of these names, one folder below the other
abbrev pub texts_along : PathTexts → List (List ℕ) → PathTexts
texts_along at [] = at
texts_along at (x ∷ names) = texts_along (item_texts at x) names

-- the candidate of an entry is its names from the start, joined by `/`; its path is the start, a `/` unless
-- the start is empty or ends with one, and the candidate
abbrev pub PathsAreJoined : Type 0
PathsAreJoined = (start x : List ℕ) (names : List (List ℕ)) → All IsPlain (x ∷ names)
    → texts_along (start_texts start) (x ∷ names) ≡ record {
      path = join start (join_with_byte 47 (x ∷ names));
      root = start;
      candidate = join_with_byte 47 (x ∷ names);
    }
