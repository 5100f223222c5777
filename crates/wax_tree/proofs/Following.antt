-- Walks along names, name by name.
use Rattle.std.proofs.Common.{◌≡◌, ℕ, ◌+◌, suc, List, [], ◌∷◌, ◌++◌, length, Some, refl, ap, ◌∙◌, arith}
use Rattle.wax_directory.specs.Shown.{Shown, a_leaf, a_folder, a_sealed, missing, failing, child_in}
use Rattle.wax_walk.specs.{Forest.{Forest, nothing, item}, Given.Given}
use Rattle.wax_tree.specs.Follows.{FollowsNames, StopsAtFault, fault_before, location_at}
use Rattle.wax_tree.specs.{Plain.{WalkScope, Location, item_location, one_deeper, plain_at}, Prefix.walk_from}

-- the location after one more name
abbrev below : Location → List ℕ → Location
below at x = one_deeper (item_location at x)

later : (at : Location) (x : List ℕ) (names : List (List ℕ))
    → location_at (below at x) names ≡ location_at at (x ∷ names)
later at x names =
    let e : (at.depth + 1) + length names ≡ at.depth + suc (length names) = omega arith in
    rw e refl

at_once : (at : Location) → at ≡ location_at at []
at_once at = let e : at.depth ≡ at.depth + 0 = omega arith in ap (λ n. record at { depth = n }) e

pub follows_names : FollowsNames
follows_names scope at s there [] after h =
    ap (λ v. plain_at scope at v after) h ∙ ap (λ v. plain_at scope v there after) (at_once at)
follows_names scope at s there (x ∷ names) after h =
    ap (λ v. walk_from scope at v (x ∷ names) after) h.1
    ∙ follows_names scope (below at x) (child_in x h.0) there names after h.2
    ∙ ap (λ v. plain_at scope v there after) (later at x names)

the_same : (x y : Given) → Some x ≡ Some y → x ≡ y
the_same x y e = cc

stop_here : (scope : WalkScope) (at : Location) (there : Shown) (x : List ℕ) (back : List (List ℕ))
    (after : Forest Given) (error : Given) → fault_before at x there ≡ Some error
    → walk_from scope at there (x ∷ back) after ≡ item error nothing after
stop_here scope at (a_folder l) x back after error e = absurd (cc)
stop_here scope at a_sealed x back after error e = ap (λ v. item v nothing after) (the_same _ _ e)
stop_here scope at (a_leaf link) x back after error e = ap (λ v. item v nothing after) (the_same _ _ e)
stop_here scope at missing x back after error e = ap (λ v. item v nothing after) (the_same _ _ e)
stop_here scope at failing x back after error e = ap (λ v. item v nothing after) (the_same _ _ e)

pub stops_at_fault : StopsAtFault
stops_at_fault scope at s there [] x back after error h e =
    ap (λ v. walk_from scope at v (x ∷ back) after) h
    ∙ stop_here scope at there x back after error (ap (λ v. fault_before v x there) (at_once at) ∙ e)
stops_at_fault scope at s there (y ∷ front) x back after error h e =
    ap (λ v. walk_from scope at v (y ∷ (front ++ x ∷ back)) after) h.1
    ∙ stops_at_fault scope (below at y) (child_in y h.0) there front x back after error h.2
    (ap (λ v. fault_before v x there) (later at y front) ∙ e)
