-- The whole plain walk, of all depths, and what a walk of some depths yields of it.
use Rattle.std.specs.Prelude.{◌≡◌, ℕ, ◌+◌, ◌-◌, ◌<◌, ◌≤◌, Bool, false, ◌&&◌, not, nat_lt, filter, List, []}
use Rattle.std.specs.Prelude.{◌∷◌, ◌++◌}
use Rattle.wax_directory.specs.declared.directory.FileType.TheVariants.{Folder}
use Rattle.wax_directory.specs.Shown.{Items, end, leaf, folder, sealed, misnamed, unread, not_text, Shown}
use Rattle.wax_directory.specs.Shown.{a_leaf, a_folder, a_sealed, missing, failing, leaf_kind, join, child_in}
use Rattle.wax_directory.specs.History.{Answer}
use Rattle.wax_tree.specs.{declared.steps.DepthRange.DepthRange, Begins.scope_in}
use Rattle.wax_tree.specs.Plain.{Location, start_location, item_location, one_deeper, count_shown, plain}
use Rattle.wax_tree.specs.{Plain.plain_entry, Courses.{IsNamed, plain_course}}
use Rattle.wax_walk.specs.Collected.{IsCutShort}
use Rattle.wax_walk.specs.Course.{Course, CutsShort, DirectoryCall, IsKnownFirst, IsStartOf, answers}
use Rattle.wax_walk.specs.Course.{calls_of, items_of}
use Rattle.wax_walk.specs.declared.error.FaultKind.TheVariants.{NotFound, NotAFolder, Listing, BadName}
use Rattle.wax_walk.specs.declared.error.FaultKind.TheVariants.{NotText, Budget}
use Rattle.wax_walk.specs.Forest.{Pending, listings, nothing, pending}
use Rattle.wax_walk.specs.{Given.{Given, entry, fault, no_memory}, Opened.{items_listed, opened_folders}}

-- what is to come of a plain walk from a start where s is shown
abbrev pub plain_pending : DepthRange → List ℕ → Shown → List (List ℕ) → Pending Given
plain_pending range start s listed = pending nothing (plain (scope_in range) start s) listed (count_shown s)

-- what is in a folder, each folder before what is in it, with errors in their places
abbrev pub whole_items : Location → Items → List Given
whole_items at end = []
whole_items at (leaf x link rest) = plain_entry (item_location at x) (leaf_kind link) ∷ whole_items at rest
whole_items at (folder x inner rest) = plain_entry (item_location at x) Folder ∷
    (whole_items (one_deeper (item_location at x)) inner ++ whole_items at rest)
whole_items at (sealed x rest) = plain_entry (item_location at x) Folder ∷ fault Listing (join at.path x)
    at.depth ∷ whole_items at rest
whole_items at (misnamed x kind rest) = fault BadName at.path (at.depth - 1) ∷ whole_items at rest
whole_items at (unread rest) = fault Listing at.path (at.depth - 1) ∷ whole_items at rest
whole_items at (not_text rest) = fault NotText at.path (at.depth - 1) ∷ whole_items at rest

-- the walk from a location on
abbrev pub whole_at : Location → Shown → List Given
whole_at at (a_leaf link) = plain_entry at (leaf_kind link) ∷ []
whole_at at (a_folder l) = plain_entry at Folder ∷ whole_items (one_deeper at) l
whole_at at a_sealed = plain_entry at Folder ∷ fault Listing at.path at.depth ∷ []
whole_at at missing = fault NotFound at.path at.depth ∷ []
whole_at at failing = fault Listing at.path at.depth ∷ []

-- the whole walk from a start
abbrev pub whole : List ℕ → Shown → List Given
whole start s = whole_at (start_location start) s

-- the whole walk along names, from the last of them on; or one error, if they don't lead there
abbrev pub whole_along : Location → Shown → List (List ℕ) → List Given
whole_along at s [] = whole_at at s
whole_along at (a_folder l) (x ∷ names) = whole_along (one_deeper (item_location at x)) (child_in x l) names
whole_along at a_sealed (x ∷ names) = fault Listing (join at.path x) (at.depth + 1) ∷ []
whole_along at (a_leaf link) (x ∷ names) = fault NotAFolder at.path at.depth ∷ []
whole_along at missing (x ∷ names) = fault NotFound at.path at.depth ∷ []
whole_along at failing (x ∷ names) = fault Listing at.path at.depth ∷ []

-- an entry whose depth is in range
abbrev pub is_in : DepthRange → Given → Bool
is_in range (entry m f) = not (nat_lt f.depth range.min) && not (nat_lt range.max f.depth)
is_in range x = false

-- an entry in range, or an error of a folder above the greatest depth
abbrev pub is_yielded : DepthRange → Given → Bool
is_yielded range (entry m f) = is_in range (entry m f)
is_yielded range (fault kind path depth) = nat_lt depth range.max
is_yielded range no_memory = false

-- what a walk of these depths yields of a whole one; an error that comes first, since nothing could be looked
-- up, is yielded at any depth
abbrev pub yielded : DepthRange → List Given → List Given
yielded range (fault kind path depth ∷ xs) = fault kind path depth ∷ filter (is_yielded range) xs
yielded range xs = filter (is_yielded range) xs

-- the items are what these depths leave of the whole walk; or a prefix of that and then one error, because
-- allocation failed or the budget was reached
pub data EntriesAre (range : DepthRange) (start : List ℕ) (s : Shown) (xs : List Given) : Type 0 where
  all_in_range : xs ≡ yielded range (whole start s) → EntriesAre range start s xs
  lacks_memory : IsCutShort (yielded range (whole start s)) no_memory xs → EntriesAre range start s xs
  over_budget : (path : List ℕ) (depth : ℕ) → range.budget < count_shown s
      → IsCutShort (yielded range (whole start s)) (fault Budget path depth) xs → EntriesAre range start s xs

-- the calls of a walk of these depths from a start where s is shown, with their answers
abbrev pub calls_for : DepthRange → List ℕ → Shown → List DirectoryCall
calls_for range start s = calls_of (plain_course (scope_in range) start s)

-- before this error at most one item more than the budget was listed, and exactly so many if the budget was
-- reached
abbrev pub CutsWithin : ℕ → List Answer → Given → Type 0
CutsWithin budget told (fault Budget path depth) = items_listed told ≡ budget + 1
CutsWithin budget told x = items_listed told ≤ budget + 1

-- What was answered begins what some tree answers. The items are those that the walk of this tree yields
-- before it asks more, which begin what these depths leave of its whole walk, and then one error, because
-- allocation failed or the budget was reached in the folder that was asked last.
pub record EntriesInPart (range : DepthRange) (start : List ℕ) (told : List Answer) (xs : List Given) : Type 0
  where
    pub shown : Shown
    pub named : IsNamed shown
    -- the walk of the tree, as far as it went
    pub course : Course
    pub starts : IsStartOf course (plain_course (scope_in range) start shown)
    pub known : IsKnownFirst course
    pub told_is : told ≡ answers (calls_of course)
    pub rest : List DirectoryCall
    pub calls_are : calls_of course ++ rest ≡ calls_for range start shown
    -- the folders that were opened, or that couldn't be listed, begin those that the plain walk lists
    pub later : List (List ℕ)
    pub opened_are : opened_folders told ++ later ≡ listings (plain (scope_in range) start shown)
    pub error : Given
    pub items : IsCutShort (yielded range (whole start shown)) error xs
    pub came : xs ≡ items_of course ++ error ∷ []
    pub cut : CutsShort (calls_of course) error
    pub within : CutsWithin range.budget told error

-- whatever was answered: it is what some tree answers, the folders that were opened, or that couldn't be
-- listed, are those that the plain walk of this tree lists, in order, the items are what these depths leave
-- of its whole walk, and no more items than the budget were listed; or all of this in part
pub data EntriesAnswered (range : DepthRange) (start : List ℕ) (told : List Answer) (xs : List Given) : Type 0
  where
    as_told : (s : Shown) → IsNamed s → told ≡ answers (calls_for range start s)
        → opened_folders told ≡ listings (plain (scope_in range) start s)
        → xs ≡ yielded range (whole start s) → items_listed told ≤ range.budget
        → EntriesAnswered range start told xs
    told_in_part : EntriesInPart range start told xs → EntriesAnswered range start told xs
