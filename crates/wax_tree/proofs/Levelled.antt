-- Walks are levelled by depth.
use Rattle.std.proofs.Common.{◌≡◌, ℕ, ◌+◌, ◌-◌, ◌<◌, ◌≤◌, Bool, true, false, cond, nat_lt, List, [], ◌∷◌}
use Rattle.std.proofs.{Common.{refl, subst, arith}, lemmas.Bool.Decides.nat_tests}
use Rattle.wax_directory.specs.declared.directory.FileType.{FileType}
use Rattle.wax_directory.specs.declared.directory.FileType.TheVariants.{Folder}
use Rattle.wax_directory.specs.Shown.{Items, end, leaf, folder, sealed, misnamed, unread, not_text, Shown}
use Rattle.wax_directory.specs.Shown.{a_leaf, a_folder, a_sealed, missing, failing, leaf_kind, join, child_in}
use Rattle.wax_tree.specs.Plain.{WalkScope, Location, item_location, one_deeper, plain_entry, at_depth}
use Rattle.wax_tree.specs.{Plain.{above_max, items_forest, plain_at, unlisted}, Prefix.walk_from}
use Rattle.wax_walk.proofs.Leaving.{IsLevelled}
use Rattle.wax_walk.specs.Forest.{Forest, nothing, item, lists, followed_by}
use Rattle.wax_walk.specs.Given.{Given, entry, fault, no_memory}

levelled_from : (low less depth : ℕ) (f : Forest Given) → less ≤ low → IsLevelled low depth f
    → IsLevelled less depth f
levelled_from low less depth nothing few h = tt
levelled_from low less depth (lists path after) few h = levelled_from low less depth after few h
levelled_from low less depth (item (entry m f) below after) few h =
    (h.0, h.1, levelled_from low less depth after few h.2)
levelled_from low less depth (item (fault kind path d) below after) few h =
    (omega (arith, few, h.0), h.1, h.2, levelled_from low less depth after few h.3)
levelled_from low less depth (item no_memory below after) few h = h

levelled_followed : (low depth : ℕ) (f g : Forest Given) → IsLevelled low depth f → IsLevelled low depth g
    → IsLevelled low depth (followed_by f g)
levelled_followed low depth nothing g h k = k
levelled_followed low depth (lists path after) g h k = levelled_followed low depth after g h k
levelled_followed low depth (item (entry m f) below after) g h k =
    (h.0, h.1, levelled_followed low depth after g h.2 k)
levelled_followed low depth (item (fault kind path d) below after) g h k =
    (h.0, h.1, h.2, levelled_followed low depth after g h.3 k)
levelled_followed low depth (item no_memory below after) g h k = h

less_than : (n d : ℕ) → nat_lt n d ≡ true → n < d
less_than n d h = grind (arith, nat_tests)

not_less : (n d : ℕ) → nat_lt n d ≡ false → d ≤ n
not_less n d h = grind (arith, nat_tests)

module _ (scope : WalkScope) where
  -- the depth of the first entries that are yielded at a depth or below it
  abbrev top : ℕ → ℕ
  top depth = cond (nat_lt depth scope.min) scope.min depth

  top_at_least : (depth : ℕ) → depth ≤ top depth
  top_at_least depth = go (nat_lt depth scope.min) refl where
    go : (b : Bool) → nat_lt depth scope.min ≡ b → depth ≤ cond b scope.min depth
    go true h = let l = less_than depth scope.min h in omega (arith, l)
    go false h = omega arith

  -- below an entry that isn't yielded, the first that are have the least depth
  top_unseen : (depth : ℕ) → depth < scope.min → top (depth + 1) ≡ scope.min
  top_unseen depth l = go (nat_lt (depth + 1) scope.min) refl where
    go : (b : Bool) → nat_lt (depth + 1) scope.min ≡ b → cond b scope.min (depth + 1) ≡ scope.min
    go true h = refl
    go false h = let m = not_less (depth + 1) scope.min h in omega (arith, l, m)

  top_seen : (depth : ℕ) → scope.min ≤ depth → top (depth + 1) ≡ depth + 1
  top_seen depth l = go (nat_lt (depth + 1) scope.min) refl where
    go : (b : Bool) → nat_lt (depth + 1) scope.min ≡ b → cond b scope.min (depth + 1) ≡ depth + 1
    go true h = let m = less_than (depth + 1) scope.min h in absurd (omega (arith, l, m))
    go false h = refl

  levelled_entry : (low : ℕ) (at : Location) (kind : FileType) (below after : Forest Given) → low ≤ at.depth
      → IsLevelled at.depth (top (at.depth + 1)) below → IsLevelled low (top at.depth) after
      → IsLevelled low (top at.depth) (at_depth scope at.depth (plain_entry at kind) below after)
  levelled_entry low at kind below after few h k = go (nat_lt at.depth scope.min) refl k where
    go : (b : Bool) → nat_lt at.depth scope.min ≡ b → IsLevelled low (cond b scope.min at.depth) after
        → IsLevelled low (cond b scope.min at.depth)
        (cond b (followed_by below after) (item (plain_entry at kind) below after))
    go true e i =
        levelled_followed low scope.min below after
        (levelled_from at.depth low scope.min below few
        (subst (λ d. IsLevelled at.depth d below) (top_unseen at.depth (less_than at.depth scope.min e)) h)) i
    go false e i = (
      refl,
      subst (λ d. IsLevelled at.depth d below) (top_seen at.depth (not_less at.depth scope.min e)) h,
      i,
    )

  levelled_above : (low depth n : ℕ) (f : Forest Given) → IsLevelled low depth f
      → IsLevelled low depth (above_max scope n f)
  levelled_above low depth n f h = go (nat_lt n scope.max) where
    go : (b : Bool) → IsLevelled low depth (cond b f nothing)
    go true = h
    go false = tt

  levelled_unlisted : (path : List ℕ) (depth : ℕ)
      → IsLevelled depth (top (depth + 1)) (unlisted scope path depth)
  levelled_unlisted path depth =
      (omega arith, let l = top_at_least (depth + 1) in omega (arith, l), refl, tt)

  -- an error of a folder at depth n is levelled with its items
  levelled_error : (n : ℕ) (at : Location) → at.depth ≡ n + 1
      → (n ≤ at.depth - 1) × (at.depth - 1 < top at.depth)
  levelled_error n at d = let l = top_at_least at.depth in (omega (arith, d), omega (arith, d, l))

  levelled_items : (n : ℕ) (at : Location) (l : Items) → at.depth ≡ n + 1
      → IsLevelled n (top at.depth) (items_forest scope at l)
  levelled_items n at end d = tt
  levelled_items n at (leaf x link rest) d =
      levelled_entry n (item_location at x) (leaf_kind link) nothing (items_forest scope at rest)
      (omega (arith, d)) tt (levelled_items n at rest d)
  levelled_items n at (folder x inner rest) d =
      let deep = one_deeper (item_location at x) in
      levelled_entry n (item_location at x) Folder _ (items_forest scope at rest) (omega (arith, d))
      (levelled_above at.depth (top (at.depth + 1)) at.depth
      (lists (join at.path x) (items_forest scope deep inner))
      (levelled_items at.depth deep inner refl))
      (levelled_items n at rest d)
  levelled_items n at (sealed x rest) d =
      levelled_entry n (item_location at x) Folder _ (items_forest scope at rest) (omega (arith, d))
      (levelled_above at.depth (top (at.depth + 1)) at.depth (unlisted scope (join at.path x) at.depth)
      (levelled_unlisted (join at.path x) at.depth))
      (levelled_items n at rest d)
  levelled_items n at (misnamed x kind rest) d =
      let e = levelled_error n at d in (e.0, e.1, refl, levelled_items n at rest d)
  levelled_items n at (unread rest) d =
      let e = levelled_error n at d in (e.0, e.1, refl, levelled_items n at rest d)
  levelled_items n at (not_text rest) d =
      let e = levelled_error n at d in (e.0, e.1, refl, levelled_items n at rest d)

  -- a walk from a location on
  pub levelled_at : (at : Location) (s : Shown)
      → (low depth : ℕ) × IsLevelled low depth (plain_at scope at s nothing)
  levelled_at at (a_leaf link) =
      (0, top at.depth, levelled_entry 0 at (leaf_kind link) nothing nothing (omega arith) tt tt)
  levelled_at at (a_folder l) = (
    0,
    top at.depth,
    levelled_entry 0 at Folder _ nothing (omega arith)
        (levelled_above at.depth (top (at.depth + 1)) at.depth
        (lists at.path (items_forest scope (one_deeper at) l))
        (levelled_items at.depth (one_deeper at) l refl)) tt,
  )
  levelled_at at a_sealed = (
    0,
    top at.depth,
    levelled_entry 0 at Folder _ nothing (omega arith)
        (levelled_above at.depth (top (at.depth + 1)) at.depth (unlisted scope at.path at.depth)
        (levelled_unlisted at.path at.depth)) tt,
  )
  levelled_at at missing = (at.depth, at.depth + 1, (omega arith, omega arith, refl, tt))
  levelled_at at failing = (at.depth, at.depth + 1, (omega arith, omega arith, refl, tt))

  -- a walk along names
  pub levelled_along : (at : Location) (s : Shown) (names : List (List ℕ))
      → (low depth : ℕ) × IsLevelled low depth (walk_from scope at s names nothing)
  levelled_along at s [] = levelled_at at s
  levelled_along at (a_folder l) (x ∷ names) =
      levelled_along (one_deeper (item_location at x)) (child_in x l) names
  levelled_along at a_sealed (x ∷ names) = (at.depth + 1, at.depth + 2, (omega arith, omega arith, refl, tt))
  levelled_along at (a_leaf link) (x ∷ names) = (at.depth, at.depth + 1, (omega arith, omega arith, refl, tt))
  levelled_along at missing (x ∷ names) = (at.depth, at.depth + 1, (omega arith, omega arith, refl, tt))
  levelled_along at failing (x ∷ names) = (at.depth, at.depth + 1, (omega arith, omega arith, refl, tt))
