-- What filters leave, one after another.
use Rattle.std.specs.Prelude.{◌≡◌, Bool, true, false, ◌&&◌, ⊤, List, [], ◌∷◌}
use Rattle.wax_walk.specs.Forest.{Forest, nothing, item, lists}
use Rattle.wax_walk.specs.Given.{Facts, Mark, kept, alone, with_tree, Given, entry, fault, no_memory}
use Rattle.wax_exclude.specs.Wanted.{is_kept_where}

abbrev pub keeps : Mark → Bool
keeps kept = true
keeps alone = false
keeps with_tree = false

-- each filter keeps the entry
abbrev pub all_keep : List (Facts → Mark) → Facts → Bool
all_keep [] f = true
all_keep (rule ∷ rules) f = keeps (rule f) && all_keep rules f

-- an entry that is kept, and that each filter keeps
abbrev pub is_left : List (Facts → Mark) → Given → Bool
is_left rules x = is_kept_where (all_keep rules) x

-- the rule excludes this entry with everything below it, or the item is an error
abbrev pub LeavesOutWhole : (Facts → Mark) → Given → Type 0
LeavesOutWhole rule (entry m f) = rule f ≡ with_tree
LeavesOutWhole rule (fault kind path depth) = ⊤
LeavesOutWhole rule no_memory = ⊤

-- the rule excludes each entry with everything below it
abbrev pub LeavesOutAll : (Facts → Mark) → Forest Given → Type 0
LeavesOutAll rule nothing = ⊤
LeavesOutAll rule (item x below after) =
    LeavesOutWhole rule x × LeavesOutAll rule below × LeavesOutAll rule after
LeavesOutAll rule (lists path after) = LeavesOutAll rule after

abbrev pub IsEntryLeftOut : (Facts → Mark) → Given → Type 0
IsEntryLeftOut rule (entry m f) = rule f ≡ with_tree
IsEntryLeftOut rule (fault kind path depth) = ⊥
IsEntryLeftOut rule no_memory = ⊥

-- if the rule excludes an entry with everything below it, it excludes each entry there in that way
abbrev pub PassesDown : (Facts → Mark) → Forest Given → Type 0
PassesDown rule nothing = ⊤
PassesDown rule (item x below after) = (IsEntryLeftOut rule x → LeavesOutAll rule below)
    × PassesDown rule below × PassesDown rule after
PassesDown rule (lists path after) = PassesDown rule after

abbrev pub AllPassDown : List (Facts → Mark) → Forest Given → Type 0
AllPassDown [] f = ⊤
AllPassDown (rule ∷ rules) f = PassesDown rule f × AllPassDown rules f
