-- What is below an entry, by the names of candidates.
use Rattle.std.specs.{Prelude.{◌≡◌, ◌↔◌, ℕ, true, IsTrue, List, ◌∷◌, ◌++◌}, List.Contains}
use Rattle.wax_directory.specs.{Names.names_in_path, Shown.Shown}
use Rattle.wax_tree.specs.Whole.{whole}
use Rattle.wax_walk.specs.{Given.{Facts, Mark, Given, entry, cut_by}, Left.is_cancelled}
use Rattle.wax_exclude.specs.Premises.{IsWellNamed}

-- the names of the first entry's candidate are the first ones of the second's, which has more
abbrev pub IsEntryBelow : Facts → Facts → Type 0
IsEntryBelow above below = (x : List ℕ) × (more : List (List ℕ))
    × (names_in_path below.candidate ≡ names_in_path above.candidate ++ x ∷ more)

-- the entry is below one of these, which the rule excludes with everything below it
abbrev pub IsBelowCut : (Facts → Mark) → List Given → Facts → Type 0
IsBelowCut rule before f = (n : Mark) × (above : Facts) × Contains before (entry n above)
    × (cut_by rule (entry n above) ≡ true) × IsEntryBelow above f

-- an entry of a walk is cancelled exactly if it is below an earlier one that is excluded with all below it
abbrev pub CancelsByNames : Type 0
CancelsByNames = (rule : Facts → Mark) (start : List ℕ) (s : Shown) (before after : List Given) (m : Mark)
    (f : Facts) → IsWellNamed s → whole start s ≡ before ++ entry m f ∷ after
    → IsTrue (is_cancelled (cut_by rule) before (entry m f)) ↔ IsBelowCut rule before f
