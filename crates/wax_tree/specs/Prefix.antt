-- The walk along names below the start, and from there on.
use Rattle.std.specs.Prelude.{ℕ, ◌+◌, List, [], ◌∷◌, ◌++◌, String, string_bytes, ⊤}
use Rattle.std.specs.declared.alloc.Global.{Global}
use Rattle.wax_directory.specs.Shown.{Shown, a_leaf, a_folder, a_sealed, missing, failing, IsPlain, join}
use Rattle.wax_directory.specs.Shown.{child_in}
use Rattle.wax_walk.specs.declared.error.FaultKind.TheVariants.{NotFound, NotAFolder, Listing}
use Rattle.wax_walk.specs.{Forest.{Forest, nothing, item}, Given.{Given, fault}}
use Rattle.wax_tree.specs.Plain.{WalkScope, Location, item_location, one_deeper, plain_at}

-- names that paths can hold
abbrev pub ArePlain : List (List ℕ) → Type 0
ArePlain [] = ⊤
ArePlain (x ∷ names) = IsPlain x × ArePlain names

-- the path that these names lead to from another one
abbrev pub path_from : List ℕ → List (List ℕ) → List ℕ
path_from path [] = path
path_from path (x ∷ names) = path_from (join path x) names

-- names that are stored in reverse, the first one last
abbrev pub from_last : List (String Global) → List (List ℕ)
from_last [] = []
from_last (x ∷ names) = from_last names ++ string_bytes x ∷ []

-- follows the names from a location where s is shown: the walk from the last of them on, or one error if they
-- don't lead there; and what comes after it
abbrev pub walk_from : WalkScope → Location → Shown → List (List ℕ) → Forest Given → Forest Given
walk_from scope at s [] after = plain_at scope at s after
walk_from scope at (a_folder l) (x ∷ names) after = walk_from scope (one_deeper (item_location at x))
    (child_in x l) names after
walk_from scope at a_sealed (x ∷ names) after = item (fault Listing (join at.path x) (at.depth + 1)) nothing
    after
walk_from scope at (a_leaf link) (x ∷ names) after = item (fault NotAFolder at.path at.depth) nothing after
walk_from scope at missing (x ∷ names) after = item (fault NotFound at.path at.depth) nothing after
walk_from scope at failing (x ∷ names) after = item (fault Listing at.path at.depth) nothing after
