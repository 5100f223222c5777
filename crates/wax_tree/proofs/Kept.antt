-- A plain walk leaves nothing out, and goes on to its end.
use Rattle.std.proofs.Common.{◌≡◌, ℕ, ◌-◌, Bool, true, false, cond, List, [], ◌∷◌, ◌++◌, filter, nat_lt, refl}
use Rattle.std.proofs.Common.{◌∙◌, ap, subst, sym}
use Rattle.std.specs.Prelude.{Some}
use Rattle.wax_directory.specs.declared.directory.FileType.{FileType}
use Rattle.wax_directory.specs.declared.directory.FileType.TheVariants.{Folder}
use Rattle.wax_directory.specs.Shown.{Items, end, leaf, folder, sealed, misnamed, unread, not_text, Shown}
use Rattle.wax_directory.specs.Shown.{a_leaf, a_folder, a_sealed, missing, failing, leaf_kind, join}
use Rattle.wax_walk.specs.declared.error.FaultKind.TheVariants.{BadName, Listing, NotFound, NotText}
use Rattle.wax_walk.specs.{Collected.NoneLast, Forest.{Forest, nothing, item, lists, followed_by, preorder}}
use Rattle.wax_walk.specs.{Given.{Facts, Given, entry, fault, is_kept, kept}, View.IsLast}
use Rattle.wax_tree.specs.Plain.{WalkScope, Location, start_location, item_location, one_deeper, at_depth}
use Rattle.wax_tree.specs.Plain.{unlisted, items_forest, below_forest, entry_forest, plain}

-- a fact of each item
abbrev Each : (Given → Type 0) → List Given → Type 0
Each P [] = Unit {0}
Each P (x ∷ xs) = P x × Each P xs

abbrev EachIn : (Given → Type 0) → Forest Given → Type 0
EachIn P nothing = Unit {0}
EachIn P (item x below after) = P x × EachIn P below × EachIn P after
EachIn P (lists path after) = EachIn P after

module _ (P : Given → Type 0) where
  each_append : (xs ys : List Given) → Each P xs → Each P ys → Each P (xs ++ ys)
  each_append [] ys h k = k
  each_append (x ∷ xs) ys h k = (h.0, each_append xs ys h.1 k)

  each_before : (xs ys : List Given) → Each P (xs ++ ys) → Each P xs
  each_before [] ys h = tt
  each_before (x ∷ xs) ys h = (h.0, each_before xs ys h.1)

  each_preorder : (f : Forest Given) → EachIn P f → Each P (preorder f)
  each_preorder nothing h = tt
  each_preorder (item x below after) h =
      (h.0, each_append (preorder below) (preorder after) (each_preorder below h.1) (each_preorder after h.2))
  each_preorder (lists path after) h = each_preorder after h

  each_followed : (f g : Forest Given) → EachIn P f → EachIn P g → EachIn P (followed_by f g)
  each_followed nothing g h k = k
  each_followed (item x below after) g h k = (h.0, h.1, each_followed after g h.2 k)
  each_followed (lists path after) g h k = each_followed after g h k

  each_either : (b : Bool) (f g : Forest Given) → EachIn P f → EachIn P g → EachIn P (cond b f g)
  each_either true f g h k = h
  each_either false f g h k = k

  -- P holds of each entry that is kept, and of each error after which a walk goes on
  module _ (entries : (f : Facts) → P (entry kept f))
      (listing : (path : List ℕ) (depth : ℕ) → P (fault Listing path depth))
      (bad_name : (path : List ℕ) (depth : ℕ) → P (fault BadName path depth))
      (no_text : (path : List ℕ) (depth : ℕ) → P (fault NotText path depth)) (scope : WalkScope) where
    each_at : (depth : ℕ) (f : Facts) (below after : Forest Given) → EachIn P below → EachIn P after
        → EachIn P (at_depth scope depth (entry kept f) below after)
    each_at depth f below after h k = each_either (nat_lt depth scope.min) (followed_by below after)
        (item (entry kept f) below after) (each_followed below after h k) (entries f, h, k)

    each_unlisted : (depth : ℕ) (path : List ℕ) (d : ℕ)
        → EachIn P (cond (nat_lt depth scope.max) (unlisted scope path d) nothing)
    each_unlisted depth path d =
        each_either (nat_lt depth scope.max) (unlisted scope path d) nothing (listing path d, tt, tt) tt

    each_item : (at : Location) (l : Items) → EachIn P (items_forest scope at l)
    each_item at end = tt
    each_item at (leaf x link rest) =
        each_at at.depth _ nothing (items_forest scope at rest) tt (each_item at rest)
    each_item at (folder x inner rest) =
        each_at at.depth _ _ (items_forest scope at rest)
        (each_either (nat_lt at.depth scope.max)
        (lists (join at.path x) (items_forest scope (one_deeper (item_location at x)) inner)) nothing
        (each_item (one_deeper (item_location at x)) inner) tt)
        (each_item at rest)
    each_item at (sealed x rest) =
        each_at at.depth _ _ (items_forest scope at rest) (each_unlisted at.depth (join at.path x) at.depth)
        (each_item at rest)
    each_item at (misnamed x kind rest) = (bad_name at.path (at.depth - 1), tt, each_item at rest)
    each_item at (unread rest) = (listing at.path (at.depth - 1), tt, each_item at rest)
    each_item at (not_text rest) = (no_text at.path (at.depth - 1), tt, each_item at rest)

    each_below : (at : Location) (s : Shown) → EachIn P (below_forest scope at s)
    each_below at (a_leaf link) = tt
    each_below at (a_folder l) = each_either (nat_lt at.depth scope.max)
        (lists at.path (items_forest scope (one_deeper at) l)) nothing (each_item (one_deeper at) l) tt
    each_below at a_sealed = each_unlisted at.depth at.path at.depth
    each_below at missing = tt
    each_below at failing = tt

    each_entry : (start : List ℕ) (kind : FileType) (s : Shown)
        → EachIn P (entry_forest scope (start_location start) kind s nothing)
    each_entry start kind s = each_at 0 _ (below_forest scope (start_location start) s) nothing
        (each_below (start_location start) s) tt

    each_plain : (start : List ℕ) (s : Shown) → (s ≡ missing → P (fault NotFound start 0))
        → EachIn P (plain scope start s)
    each_plain start (a_leaf link) none = each_entry start (leaf_kind link) (a_leaf link)
    each_plain start (a_folder l) none = each_entry start Folder (a_folder l)
    each_plain start a_sealed none = each_entry start Folder a_sealed
    each_plain start missing none = (none refl, tt, tt)
    each_plain start failing none = (listing start 0, tt, tt)

-- the item is kept
abbrev IsKept : Given → Type 0
IsKept x = is_kept x ≡ true

filter_kept : (xs : List Given) → Each IsKept xs → filter is_kept xs ≡ xs
filter_kept [] h = refl
filter_kept (x ∷ xs) h = ap (λ b. cond b (x ∷ filter is_kept xs) (filter is_kept xs)) h.0 ∙ ap (λ ys. x ∷ ys)
    (filter_kept xs h.1)

-- a walk goes on after the item
abbrev IsNotLast : Given → Type 0
IsNotLast x = ¬ (IsLast (Some x))

none_last : (xs : List Given) → Each IsNotLast xs → NoneLast xs
none_last [] h = tt
none_last (x ∷ xs) h = (h.0, none_last xs h.1)

-- no item of a plain walk ends it if something is at the start
pub plain_goes : (scope : WalkScope) (start : List ℕ) (s : Shown) → ¬ (s ≡ missing)
    → NoneLast (preorder (plain scope start s))
plain_goes scope start s there =
    none_last (preorder (plain scope start s)) (each_preorder IsNotLast (plain scope start s)
    (each_plain IsNotLast (λ f i. i) (λ path depth i. i) (λ path depth i. i) (λ path depth i. i) scope start s
    (λ e. absurd (there e))))

module _ (scope : WalkScope) where
  kept_plain : (start : List ℕ) (s : Shown) → Each IsKept (preorder (plain scope start s))
  kept_plain start s = each_preorder IsKept (plain scope start s)
      (each_plain IsKept (λ f. refl) (λ path depth. refl) (λ path depth. refl) (λ path depth. refl) scope
      start s (λ e. refl))

  -- what is yielded first of a plain walk is kept
  pub first_kept : (start : List ℕ) (s : Shown) (xs rest : List Given)
      → xs ++ rest ≡ preorder (plain scope start s)
      → filter is_kept xs ≡ xs
  first_kept start s xs rest e =
      filter_kept xs (each_before IsKept xs rest (subst (Each IsKept) (sym e) (kept_plain start s)))

  -- and so is an error after it
  pub error_kept : (start : List ℕ) (s : Shown) (xs rest : List Given) (x : Given) → is_kept x ≡ true
      → xs ++ rest ≡ preorder (plain scope start s) → filter is_kept (xs ++ x ∷ []) ≡ xs ++ x ∷ []
  error_kept start s xs rest x k e = filter_kept (xs ++ x ∷ []) (each_append IsKept xs (x ∷ [])
      (each_before IsKept xs rest (subst (Each IsKept) (sym e) (kept_plain start s))) (k, tt))
