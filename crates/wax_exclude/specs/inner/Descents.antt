-- Marks of candidates, by their names.
use Rattle.std.specs.Prelude.{◌≡◌, ℕ, Bool, List, ◌++◌, length}
use Rattle.wax_tree.specs.{Plain.{Location, item_location, one_deeper}, Prefix.ArePlain}
use Rattle.wax_walk.specs.{Candidates.Candidate, Given.{Mark, with_tree}}
use Rattle.wax_query.specs.Below.{AreNames}
use Rattle.wax_exclude.specs.Candidates.{candidate_at, text_at}

-- the mark of the candidate with these names
abbrev pub said_of : Bool → (Candidate → Mark) → List (List ℕ) → Mark
said_of rooted mark names = mark (candidate_at rooted names)

-- if a candidate is excluded with everything below it, so is each candidate below it
abbrev pub Descends : Bool → (Candidate → Mark) → Type 0
Descends rooted mark = (names others : List (List ℕ)) → AreNames (names ++ others)
    → said_of rooted mark names ≡ with_tree → said_of rooted mark (names ++ others) ≡ with_tree

-- these names lead to the location
pub record At (rooted : Bool) (at : Location) (names : List (List ℕ)) : Type 0 where
  pub candidate_is : at.candidate ≡ text_at rooted names
  pub depth_is : at.depth ≡ length names
  pub are_plain : ArePlain names

-- the location of a name in the folder at a location
abbrev pub child_location : Location → List ℕ → Location
child_location at x = item_location (one_deeper at) x
