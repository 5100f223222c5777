-- What a filter leaves of the items of a walk, as a list.
use Rattle.std.specs.Prelude.{ℕ, Bool, false, ◌&&◌, ◌||◌, not, cond, nat_lt, List, [], ◌∷◌, ◌++◌}
use Rattle.std.specs.List.{list_all}
use Rattle.wax_walk.specs.Pruned.{Opening, all_folders, is_closed, itself, these_folders}
use Rattle.wax_walk.specs.Given.{Facts, Mark, Given, entry, fault, no_memory, changed_by, cut_by}

-- the item can be below an entry of this depth: an entry if it is deeper, and an error if it is of a folder
-- that isn't less deep
abbrev pub is_deeper : ℕ → Given → Bool
is_deeper depth (entry m f) = nat_lt depth f.depth
is_deeper depth (fault kind path d) = not (nat_lt d depth)
is_deeper depth no_memory = false

-- each of these items, which come after the first one in this order, is below it
abbrev pub are_below : Given → List Given → Bool
are_below (entry m f) xs = list_all (is_deeper f.depth) xs
are_below x xs = false

-- the item x, which comes after these, is below one of them that is cut
abbrev pub is_cancelled : (Given → Bool) → List Given → Given → Bool
is_cancelled cut [] x = false
is_cancelled cut (y ∷ between) x =
    (cut y && are_below y (between ++ x ∷ [])) || is_cancelled cut between x

-- what a filter leaves of items that come after others: each changed, unless it is cancelled
abbrev pub left_after : (Given → Given) → (Given → Bool) → List Given → List Given → List Given
left_after change cut before [] = []
left_after change cut before (x ∷ xs) =
    let rest = left_after change cut (before ++ x ∷ []) xs in
    cond (is_cancelled cut before x) rest (change x ∷ rest)

-- what a rule leaves of a walk: each item with its mark, unless it is below one that is excluded with
-- everything below it
abbrev pub left_of : (Facts → Mark) → List Given → List Given
left_of rule xs = left_after (changed_by rule) (cut_by rule) [] xs

-- the items of a walk that aren't below a folder that isn't opened
abbrev pub opened_items : Opening → List Given → List Given
opened_items all_folders xs = xs
opened_items (these_folders opens) xs = left_after itself (is_closed opens) [] xs
