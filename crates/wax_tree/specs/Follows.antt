-- Where a walk along names goes.
use Rattle.std.specs.Prelude.{◌≡◌, ℕ, ◌+◌, List, [], ◌∷◌, ◌++◌, length, Option, Some, None, ⊤}
use Rattle.wax_directory.specs.Shown.{IsNew, Items, Shown, a_leaf, a_folder, a_sealed, child_in, end, failing}
use Rattle.wax_directory.specs.Shown.{folder, join, leaf, misnamed, missing, not_text, sealed, unread}
use Rattle.wax_walk.specs.declared.error.FaultKind.TheVariants.{NotFound, NotAFolder, Listing}
use Rattle.wax_walk.specs.{Forest.{Forest, nothing, item}, Given.{Given, fault}}
use Rattle.wax_tree.specs.{Plain.{WalkScope, Location, plain_at}, Prefix.{path_from, walk_from}}

-- the names lead through folders, from what is shown to this
abbrev pub NamesLead : Shown → List (List ℕ) → Shown → Type 0
NamesLead s [] there = s ≡ there
NamesLead s (x ∷ names) there = (l : Items) × (s ≡ a_folder l) × NamesLead (child_in x l) names there

-- the names of a folder's entries are distinct, whatever is below these
abbrev pub AreDistinctHere : Items → Type 0
AreDistinctHere end = ⊤
AreDistinctHere (leaf x link rest) = IsNew x rest × AreDistinctHere rest
AreDistinctHere (folder x inner rest) = IsNew x rest × AreDistinctHere rest
AreDistinctHere (sealed x rest) = IsNew x rest × AreDistinctHere rest
AreDistinctHere (misnamed x kind rest) = AreDistinctHere rest
AreDistinctHere (unread rest) = AreDistinctHere rest
AreDistinctHere (not_text rest) = AreDistinctHere rest

-- they are in each folder in which one of these names is looked up
abbrev pub AreDistinctAlong : List (List ℕ) → Shown → Type 0
AreDistinctAlong (x ∷ names) (a_folder l) = AreDistinctHere l × AreDistinctAlong names (child_in x l)
AreDistinctAlong names s = ⊤

-- the location that names lead to
abbrev pub location_at : Location → List (List ℕ) → Location
location_at at names = record {
  path = path_from at.path names;
  root = at.root;
  candidate = path_from at.candidate names;
  depth = at.depth + length names;
}

-- the error if a name is to be looked up in what isn't a folder that can be listed
abbrev pub fault_before : Location → List ℕ → Shown → Option Given
fault_before at x (a_folder l) = None
fault_before at x a_sealed = Some (fault Listing (join at.path x) (at.depth + 1))
fault_before at x (a_leaf link) = Some (fault NotAFolder at.path at.depth)
fault_before at x missing = Some (fault NotFound at.path at.depth)
fault_before at x failing = Some (fault Listing at.path at.depth)

-- if the names lead somewhere, the walk along them is the plain walk from there
abbrev pub FollowsNames : Type 0
FollowsNames = (scope : WalkScope) (at : Location) (s there : Shown) (names : List (List ℕ))
    (after : Forest Given) → NamesLead s names there
    → walk_from scope at s names after ≡ plain_at scope (location_at at names) there after

-- if some of the names lead to what isn't a folder that can be listed, the walk is one error
abbrev pub StopsAtFault : Type 0
StopsAtFault = (scope : WalkScope) (at : Location) (s there : Shown) (front : List (List ℕ)) (x : List ℕ)
    (back : List (List ℕ)) (after : Forest Given) (error : Given) → NamesLead s front there
    → fault_before (location_at at front) x there ≡ Some error
    → walk_from scope at s (front ++ x ∷ back) after ≡ item error nothing after
