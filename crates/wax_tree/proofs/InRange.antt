-- What a walk of some depths yields is what its depths leave of the whole walk.
use Rattle.std.proofs.Common.{◌≡◌, ℕ, ◌+◌, ◌-◌, ◌<◌, ◌≤◌, Bool, true, false, cond, length, List, [], ◌∷◌}
use Rattle.std.proofs.Common.{◌++◌, filter, nat_lt, not, ◌&&◌, refl, sym, ◌∙◌, ap, subst, arith}
use Rattle.std.proofs.{lemmas.Bool.lt-ltb, lemmas.Bool.Decides.nat_tests, lemmas.List.Elements.filter-append}
use Rattle.wax_directory.specs.declared.directory.FileType.{FileType}
use Rattle.wax_directory.specs.declared.directory.FileType.TheVariants.{Folder}
use Rattle.wax_directory.specs.Shown.{Items, end, leaf, folder, sealed, misnamed, unread, not_text, Shown}
use Rattle.wax_directory.specs.Shown.{a_leaf, a_folder, a_sealed, missing, failing, leaf_kind, join, child_in}
use Rattle.wax_tree.specs.{declared.steps.DepthRange.DepthRange, Begins.scope_in}
use Rattle.wax_tree.specs.Plain.{Location, start_location, item_location, one_deeper, count_shown, at_depth}
use Rattle.wax_tree.specs.Plain.{above_max, plain_entry, unlisted, items_forest, plain, plain_at}
use Rattle.wax_tree.specs.Prefix.{walk_from}
use Rattle.wax_tree.specs.Whole.{whole_items, whole_at, whole, whole_along, is_yielded, yielded, EntriesAre}
use Rattle.wax_tree.specs.Whole.{all_in_range, lacks_memory, over_budget}
use Rattle.wax_walk.specs.Collected.{Yielded, IsCutShort}
use Rattle.wax_walk.specs.Forest.{Forest, nothing, item, lists, followed_by, preorder, Pending, pending}
use Rattle.wax_walk.specs.declared.error.FaultKind.TheVariants.{Listing, BadName, NotText, Budget}
use Rattle.wax_walk.specs.Given.{Given, fault, no_memory}
use Rattle.wax_walk.proofs.Collecting.{preorder_append}
use Rattle.wax_walk.specs.Collected as given

not_less : (a b : ℕ) → nat_lt a b ≡ false → b ≤ a
not_less a b h = grind (arith, nat_tests)

pub at_most : (a b : ℕ) → a ≤ b → nat_lt b a ≡ false
at_most a b h = grind (arith, nat_tests)

append-nil : {A : Type 0} (xs : List A) → xs ++ [] ≡ xs
append-nil [] = refl
append-nil (x ∷ xs) = ap (λ ys. x ∷ ys) (append-nil xs)

module _ (range : DepthRange) where
  abbrev in_range : List Given → List Given
  in_range xs = filter (is_yielded range) xs

  -- an item that is in range, and the others
  one_in : (x : Given) (xs : List Given) → is_yielded range x ≡ true → in_range (x ∷ xs) ≡ x ∷ in_range xs
  one_in x xs e = ap (λ b. cond b (x ∷ in_range xs) (in_range xs)) e

  one_out : (x : Given) (xs : List Given) → is_yielded range x ≡ false → in_range (x ∷ xs) ≡ in_range xs
  one_out x xs e = ap (λ b. cond b (x ∷ in_range xs) (in_range xs)) e

  -- an entry that isn't too deep, what is below it, and what comes after it
  at_depth_in : (at : Location) (kind : FileType) (below after : Forest Given) (ys zs : List Given)
      → at.depth ≤ range.max → preorder below ≡ in_range ys → preorder after ≡ in_range zs
      → preorder (at_depth (scope_in range) at.depth (plain_entry at kind) below after)
      ≡ in_range (plain_entry at kind ∷ (ys ++ zs))
  at_depth_in at kind below after ys zs few e f = go (nat_lt at.depth range.min) refl where
    others : preorder below ++ preorder after ≡ in_range (ys ++ zs)
    others = ap (λ v. v ++ preorder after) e ∙ (ap (λ v. in_range ys ++ v) f
        ∙ sym (filter-append (is_yielded range) ys zs))

    go : (b : Bool) → nat_lt at.depth range.min ≡ b
        → preorder (cond b (followed_by below after) (item (plain_entry at kind) below after))
        ≡ in_range (plain_entry at kind ∷ (ys ++ zs))
    go true h = preorder_append below after ∙ (others
        ∙ sym (one_out (plain_entry at kind) (ys ++ zs)
        (ap (λ b. not b && not (nat_lt range.max at.depth)) h)))
    go false h = ap (λ v. plain_entry at kind ∷ v) others
        ∙ sym (one_in (plain_entry at kind) (ys ++ zs)
        (ap (λ b. not b && not (nat_lt range.max at.depth)) h
        ∙ ap not (at_most at.depth range.max few)))

  out_of : (a b : Bool) → b ≡ true → (not a && not b) ≡ false
  out_of true b e = refl
  out_of false true e = refl
  out_of false false e = cc

  too_deep : (at : Location) (kind : FileType) (xs : List Given) → range.max < at.depth
      → in_range (plain_entry at kind ∷ xs) ≡ in_range xs
  too_deep at kind xs h = one_out (plain_entry at kind) xs
      (out_of (nat_lt at.depth range.min) (nat_lt range.max at.depth) (lt-ltb range.max at.depth h))

  -- nothing below the greatest depth is in range
  none_deeper : (at : Location) (l : Items) → range.max < at.depth → in_range (whole_items at l) ≡ []
  none_deeper at end h = refl
  none_deeper at (leaf x link rest) h = too_deep (item_location at x) (leaf_kind link) (whole_items at rest) h
      ∙ none_deeper at rest h
  none_deeper at (folder x inner rest) h =
      let below = whole_items (one_deeper (item_location at x)) inner in
      too_deep (item_location at x) Folder (below ++ whole_items at rest) h
      ∙ (filter-append (is_yielded range) below (whole_items at rest)
      ∙ (ap (λ ys. ys ++ in_range (whole_items at rest))
      (none_deeper (one_deeper (item_location at x)) inner (omega (arith, h))) ∙ none_deeper at rest h))
  none_deeper at (sealed x rest) h =
      let error = fault Listing (join at.path x) at.depth in
      too_deep (item_location at x) Folder (error ∷ whole_items at rest) h
      ∙ (one_out error (whole_items at rest) (at_most range.max at.depth (omega (arith, h)))
      ∙ none_deeper at rest h)
  none_deeper at (misnamed x kind rest) h =
      one_out (fault BadName at.path (at.depth - 1)) (whole_items at rest)
      (at_most range.max (at.depth - 1) (omega (arith, h)))
      ∙ none_deeper at rest h
  none_deeper at (unread rest) h =
      one_out (fault Listing at.path (at.depth - 1)) (whole_items at rest)
      (at_most range.max (at.depth - 1) (omega (arith, h)))
      ∙ none_deeper at rest h
  none_deeper at (not_text rest) h =
      one_out (fault NotText at.path (at.depth - 1)) (whole_items at rest)
      (at_most range.max (at.depth - 1) (omega (arith, h)))
      ∙ none_deeper at rest h

  -- what lies below a folder, listed or not
  below_in : (depth : ℕ) (path : List ℕ) (f : Forest Given) (ys : List Given)
      → (depth < range.max → preorder f ≡ in_range ys) → (range.max < depth + 1 → in_range ys ≡ [])
      → preorder (above_max (scope_in range) depth (lists path f)) ≡ in_range ys
  below_in depth path f ys e n = go (nat_lt depth range.max) refl where
    go : (b : Bool) → nat_lt depth range.max ≡ b → preorder (cond b (lists path f) nothing) ≡ in_range ys
    go true h = e (grind (arith, nat_tests, h))
    go false h = sym (n (omega (arith, not_less depth range.max h)))

  unlisted_in : (depth : ℕ) (path : List ℕ)
      → preorder (above_max (scope_in range) depth (unlisted (scope_in range) path depth))
      ≡ in_range (fault Listing path depth ∷ [])
  unlisted_in depth path = go (nat_lt depth range.max) where
    go : (b : Bool) → preorder (cond b (unlisted (scope_in range) path depth) nothing)
        ≡ cond b (fault Listing path depth ∷ []) []
    go true = refl
    go false = refl

  -- the items of a folder that is listed
  items_in : (n : ℕ) (at : Location) (l : Items) → at.depth ≡ n + 1 → n < range.max
      → preorder (items_forest (scope_in range) at l) ≡ in_range (whole_items at l)
  items_in n at end d h = refl
  items_in n at (leaf x link rest) d h =
      at_depth_in (item_location at x) (leaf_kind link) nothing (items_forest (scope_in range) at rest) []
      (whole_items at rest)
      (omega (arith, d, h)) refl (items_in n at rest d h)
  items_in n at (folder x inner rest) d h =
      let deep = one_deeper (item_location at x) in
      let below = items_forest (scope_in range) deep inner in
      at_depth_in (item_location at x) Folder
      (above_max (scope_in range) at.depth (lists (join at.path x) below))
      (items_forest (scope_in range) at rest) (whole_items deep inner) (whole_items at rest)
      (omega (arith, d, h))
      (below_in at.depth (join at.path x) below (whole_items deep inner)
      (λ less. items_in at.depth deep inner refl less) (none_deeper deep inner))
      (items_in n at rest d h)
  items_in n at (sealed x rest) d h =
      at_depth_in (item_location at x) Folder
      (above_max (scope_in range) at.depth (unlisted (scope_in range) (join at.path x) at.depth))
      (items_forest (scope_in range) at rest) (fault Listing (join at.path x) at.depth ∷ [])
      (whole_items at rest) (omega (arith, d, h)) (unlisted_in at.depth (join at.path x))
      (items_in n at rest d h)
  items_in n at (misnamed x kind rest) d h =
      ap (λ v. fault BadName at.path (at.depth - 1) ∷ v) (items_in n at rest d h)
      ∙ sym (one_in (fault BadName at.path (at.depth - 1)) (whole_items at rest)
      (lt-ltb (at.depth - 1) range.max (omega (arith, d, h))))
  items_in n at (unread rest) d h =
      ap (λ v. fault Listing at.path (at.depth - 1) ∷ v) (items_in n at rest d h)
      ∙ sym (one_in (fault Listing at.path (at.depth - 1)) (whole_items at rest)
      (lt-ltb (at.depth - 1) range.max (omega (arith, d, h))))
  items_in n at (not_text rest) d h =
      ap (λ v. fault NotText at.path (at.depth - 1) ∷ v) (items_in n at rest d h)
      ∙ sym (one_in (fault NotText at.path (at.depth - 1)) (whole_items at rest)
      (lt-ltb (at.depth - 1) range.max (omega (arith, d, h))))

  -- a walk from a location on yields what the depths leave of the whole walk from there
  pub walk_yielded : (at : Location) (s : Shown) → at.depth ≤ range.max
      → preorder (plain_at (scope_in range) at s nothing) ≡ yielded range (whole_at at s)
  walk_yielded at (a_leaf link) few = at_depth_in at (leaf_kind link) nothing nothing [] [] few refl refl
  walk_yielded at (a_folder l) few =
      let deep = one_deeper at in
      let below = items_forest (scope_in range) deep l in
      at_depth_in at Folder (above_max (scope_in range) at.depth (lists at.path below)) nothing
      (whole_items deep l) [] few
      (below_in at.depth at.path below (whole_items deep l) (λ less. items_in at.depth deep l refl less)
      (none_deeper deep l)) refl
      ∙ ap (λ v. in_range (plain_entry at Folder ∷ v)) (append-nil (whole_items deep l))
  walk_yielded at a_sealed few =
      at_depth_in at Folder
      (above_max (scope_in range) at.depth (unlisted (scope_in range) at.path at.depth)) nothing
      (fault Listing at.path at.depth ∷ []) [] few
      (unlisted_in at.depth at.path) refl
  walk_yielded at missing few = refl
  walk_yielded at failing few = refl

  -- and so does a walk along names
  pub along_yielded : (at : Location) (s : Shown) (names : List (List ℕ))
      → at.depth + length names ≤ range.max
      → preorder (walk_from (scope_in range) at s names nothing)
      ≡ yielded range (whole_along at s names)
  along_yielded at s [] few = walk_yielded at s (omega (arith, few))
  along_yielded at (a_folder l) (x ∷ names) few =
      along_yielded (one_deeper (item_location at x)) (child_in x l) names (omega (arith, few))
  along_yielded at a_sealed (x ∷ names) few = refl
  along_yielded at (a_leaf link) (x ∷ names) few = refl
  along_yielded at missing (x ∷ names) few = refl
  along_yielded at failing (x ∷ names) few = refl

-- a plain walk yields what its depths leave of the whole walk
pub plain_yielded : (range : DepthRange) (start : List ℕ) (s : Shown)
    → preorder (plain (scope_in range) start s) ≡ yielded range (whole start s)
plain_yielded range start s = walk_yielded range (start_location start) s (omega arith)

pub entries_are : (range : DepthRange) (start : List ℕ) (s : Shown) (tells : List (List ℕ) → Type 0)
    (listed : List (List ℕ)) (xs : List Given) → Yielded tells (range.budget + 1)
    (pending nothing (plain (scope_in range) start s) listed (count_shown s)) xs → EntriesAre range start s xs
entries_are range start s tells listed xs (given.whole e t) = all_in_range (e ∙ plain_yielded range start s)
entries_are range start s tells listed xs (given.lacks_memory c) =
    lacks_memory (subst (λ all. IsCutShort all no_memory xs) (plain_yielded range start s) c)
entries_are range start s tells listed xs (given.over_budget path depth few h c) =
    over_budget path depth (omega (arith, few))
    (subst (λ all. IsCutShort all (fault Budget path depth) xs) (plain_yielded range start s) c)

-- what is yielded, without what the directory reports
pub untold : (tells : List (List ℕ) → Type 0) (allowed : ℕ) (p : Pending Given) (xs : List Given)
    → Yielded tells allowed p xs → Yielded (λ _. Unit {0}) allowed p xs
untold tells allowed p xs (given.whole e t) = given.whole e tt
untold tells allowed p xs (given.lacks_memory c) = given.lacks_memory c
untold tells allowed p xs (given.over_budget path depth few h c) = given.over_budget path depth few h c
