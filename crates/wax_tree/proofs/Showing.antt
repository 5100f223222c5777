-- What directories show, and what comes of it.
use Rattle.std.proofs.Common.{◌≡◌, ℕ, ◌+◌, ◌-◌, ◌<◌, ◌≤◌, Bool, true, false, cond, nat_lt, length, List, []}
use Rattle.std.proofs.Common.{◌∷◌, ◌++◌, refl, sym, ap, subst, arith, string_bytes}
use Rattle.std.proofs.lemmas.Bool.{lt-ltb, le-ltb}
use Rattle.std.specs.{Prelude.{Some, None, Ok, Err, String}, declared.alloc.Global.Global, Str.bytes_eq}
use Rattle.wax_directory.specs.{declared.directory.FileType.FileType, Answers.KindIs}
use Rattle.wax_directory.specs.Shown.{Items, end, leaf, folder, sealed, misnamed, unread, not_text, Shown}
use Rattle.wax_directory.specs.Shown.{a_leaf, a_folder, a_sealed, missing, failing, leaf_kind, IsPlain}
use Rattle.wax_directory.specs.Shown.{ShowsIn, join, Listed, named, no_item, no_name, first_item, rest_of}
use Rattle.wax_directory.specs.Shown.{child_in, child_shown}
use Rattle.wax_walk.specs.declared.error.FaultKind.TheVariants.{NotFound, NotAFolder, Listing, NotText}
use Rattle.wax_walk.specs.declared.error.FaultKind.TheVariants.{BadName}
use Rattle.wax_walk.specs.{Forest.{Forest, nothing, item, lists, followed_by}, Given.{Given, fault}}
use Rattle.wax_tree.specs.Plain.{WalkScope, Location, item_location, one_deeper, count, count_shown, at_depth}
use Rattle.wax_tree.specs.Plain.{entry_forest, plain_at, items_forest, HasKind}
use Rattle.wax_tree.specs.{Prefix.{from_last, walk_from}, inner.Heads.{first_item_forest, own_count}}
use Rattle.wax_directory.specs.declared.directory.FileType.TheVariants as F
use Rattle.wax_directory.specs.declared.directory.DirectoryFault.TheVariants as Fault_of

pub silent : (scope : WalkScope) (depth : ℕ) (x : Given) (below after : Forest Given) → depth < scope.min
    → at_depth scope depth x below after ≡ followed_by below after
silent scope depth x below after h = ap (λ b. cond b (followed_by below after) (item x below after))
    (lt-ltb depth scope.min h)

pub in_range : (scope : WalkScope) (depth : ℕ) (x : Given) (below after : Forest Given) → scope.min ≤ depth
    → at_depth scope depth x below after ≡ item x below after
in_range scope depth x below after h = ap (λ b. cond b (followed_by below after) (item x below after))
    (le-ltb depth scope.min h)

-- ---- the answer at the start

pub begins_missing : (scope : WalkScope) (at : Location) (s : Shown)
    (names : List (List ℕ)) (g : Forest Given)
    → KindIs s (Ok None) → walk_from scope at s names g ≡ item (fault NotFound at.path at.depth) nothing g
begins_missing scope at missing [] g h = refl
begins_missing scope at missing (x ∷ names) g h = refl
begins_missing scope at (a_leaf link) names g h = cc
begins_missing scope at (a_folder l) names g h = cc
begins_missing scope at a_sealed names g h = cc
begins_missing scope at failing names g h = cc

pub begins_failing : (scope : WalkScope) (at : Location) (s : Shown)
    (names : List (List ℕ)) (g : Forest Given)
    → KindIs s (Err Fault_of.Failed) → walk_from scope at s names g ≡ item (fault Listing at.path at.depth)
    nothing g
begins_failing scope at failing [] g h = refl
begins_failing scope at failing (x ∷ names) g h = refl
begins_failing scope at missing names g h = cc
begins_failing scope at (a_leaf link) names g h = cc
begins_failing scope at (a_folder l) names g h = cc
begins_failing scope at a_sealed names g h = cc

pub has_kind : (s : Shown) (kind : FileType) → KindIs s (Ok (Some kind)) → HasKind s kind
has_kind (a_leaf link) kind h = cc
has_kind (a_folder l) kind h = cc
has_kind a_sealed kind h = cc
has_kind missing kind h = cc
has_kind failing kind h = cc

pub plain_is : (scope : WalkScope) (at : Location) (s : Shown) (kind : FileType) (g : Forest Given)
    → HasKind s kind
    → plain_at scope at s g ≡ entry_forest scope at kind s g
plain_is scope at (a_leaf link) kind g h = ap (λ k. entry_forest scope at k (a_leaf link) g) (sym h)
plain_is scope at (a_folder l) kind g h = ap (λ k. entry_forest scope at k (a_folder l) g) (sym h)
plain_is scope at a_sealed kind g h = ap (λ k. entry_forest scope at k a_sealed g) (sym h)
plain_is scope at missing kind g h = absurd h
plain_is scope at failing kind g h = absurd h

-- ---- names to come

pub from_last_end : (names : List (String Global)) (x : String Global)
    → from_last (names ++ x ∷ []) ≡ string_bytes x ∷ from_last names
from_last_end [] x = refl
from_last_end (y ∷ names) x = ap (λ v. v ++ string_bytes y ∷ []) (from_last_end names x)

pub none_left : {A : Type 0} (xs : List A) → (0 < length xs → ⊥) → xs ≡ []
none_left [] h = refl
none_left (x ∷ xs) h = absurd (h (omega arith))

-- a name follows what is no folder
pub follows_leaf : (scope : WalkScope) (at : Location) (s : Shown) (kind : FileType) (x : List ℕ)
    (names : List (List ℕ)) (g : Forest Given) → HasKind s kind → ¬ (kind ≡ F.Folder)
    → walk_from scope at s (x ∷ names) g ≡ item (fault NotAFolder at.path at.depth) nothing g
follows_leaf scope at (a_leaf link) kind x names g h n = refl
follows_leaf scope at (a_folder l) kind x names g h n = absurd (n h)
follows_leaf scope at a_sealed kind x names g h n = absurd (n h)
follows_leaf scope at missing kind x names g h n = absurd h
follows_leaf scope at failing kind x names g h n = absurd h

-- a name follows a folder
pub follows_folder : (scope : WalkScope) (at : Location) (s : Shown) (x : List ℕ) (names : List (List ℕ))
    (g : Forest Given) → HasKind s F.Folder
    → walk_from scope at s (x ∷ names) g ≡ walk_from scope (one_deeper (item_location at x)) (child_shown x s)
    names g
follows_folder scope at (a_folder l) x names g h = refl
follows_folder scope at a_sealed x [] g h = refl
follows_folder scope at a_sealed x (y ∷ names) g h = refl
follows_folder scope at (a_leaf true) x names g h = cc
follows_folder scope at (a_leaf false) x names g h = cc
follows_folder scope at missing x names g h = absurd h
follows_folder scope at failing x names g h = absurd h

child_counts_in : (x : List ℕ) (l : Items) → count_shown (child_in x l) ≤ count l
child_counts_in x end = omega arith
child_counts_in x (leaf y link rest) = go (bytes_eq y x) (child_counts_in x rest) where
  go : (b : Bool) → count_shown (child_in x rest) ≤ count rest
      → count_shown (cond b (a_leaf link) (child_in x rest)) ≤ 1 + count rest
  go true e = omega arith
  go false e = omega (arith, e)
child_counts_in x (folder y inner rest) = go (bytes_eq y x) (child_counts_in x rest) where
  go : (b : Bool) → count_shown (child_in x rest) ≤ count rest
      → count_shown (cond b (a_folder inner) (child_in x rest)) ≤ 1 + (count inner + count rest)
  go true e = omega arith
  go false e = omega (arith, e)
child_counts_in x (sealed y rest) = go (bytes_eq y x) (child_counts_in x rest) where
  go : (b : Bool) → count_shown (child_in x rest) ≤ count rest
      → count_shown (cond b a_sealed (child_in x rest)) ≤ 1 + count rest
  go true e = omega arith
  go false e = omega (arith, e)
child_counts_in x (misnamed y kind rest) = let e : count_shown (child_in x rest) ≤ count rest =
    child_counts_in x rest in omega (arith, e)
child_counts_in x (unread rest) = let e : count_shown (child_in x rest) ≤ count rest = child_counts_in x rest
    in omega (arith, e)
child_counts_in x (not_text rest) = let e : count_shown (child_in x rest) ≤ count rest =
    child_counts_in x rest in omega (arith, e)

-- what is under a name has no more items than the folder
pub child_counts : (x : List ℕ) (s : Shown) → count_shown (child_shown x s) ≤ count_shown s
child_counts x (a_leaf link) = omega arith
child_counts x (a_folder l) = child_counts_in x l
child_counts x a_sealed = omega arith
child_counts x missing = omega arith
child_counts x failing = omega arith

-- ---- what is shown stays shown

pub shows_in_moved : (old new : List ℕ → Shown → Type 0)
    (same : (at : List ℕ) (s : Shown) → old at s → new at s) (path : List ℕ) (l : Items) → ShowsIn old path l
    → ShowsIn new path l
shows_in_moved old new same path end h = tt
shows_in_moved old new same path (leaf x link rest) h =
    (h.0, same (join path x) (a_leaf link) h.1, shows_in_moved old new same path rest h.2)
shows_in_moved old new same path (folder x inner rest) h =
    (h.0, same (join path x) (a_folder inner) h.1, shows_in_moved old new same path rest h.2)
shows_in_moved old new same path (sealed x rest) h =
    (h.0, same (join path x) a_sealed h.1, shows_in_moved old new same path rest h.2)
shows_in_moved old new same path (misnamed x kind rest) h = (h.0, shows_in_moved old new same path rest h.1)
shows_in_moved old new same path (unread rest) h = shows_in_moved old new same path rest h
shows_in_moved old new same path (not_text rest) h = shows_in_moved old new same path rest h

pub shows_rest : (shows : List ℕ → Shown → Type 0) (path : List ℕ) (l : Items) → ShowsIn shows path l
    → ShowsIn shows path (rest_of l)
shows_rest shows path end h = tt
shows_rest shows path (leaf y link rest) h = h.2
shows_rest shows path (folder y inner rest) h = h.2
shows_rest shows path (sealed y rest) h = h.2
shows_rest shows path (misnamed y kind rest) h = h.1
shows_rest shows path (unread rest) h = h
shows_rest shows path (not_text rest) h = h

pub count_rest : (x : Listed) (l : Items) → Some x ≡ first_item l
    → count l ≡ 1 + (own_count l + count (rest_of l))
count_rest x end h = cc
count_rest x (leaf y link rest) h = omega arith
count_rest x (folder y inner rest) h = refl
count_rest x (sealed y rest) h = omega arith
count_rest x (misnamed y kind rest) h = omega arith
count_rest x (unread rest) h = omega arith
count_rest x (not_text rest) h = omega arith

-- ---- forests

pub followed_nothing : {A : Type 0} (f : Forest A) → followed_by f nothing ≡ f
followed_nothing nothing = refl
followed_nothing (item x below after) = ap (item x below) (followed_nothing after)
followed_nothing (lists path after) = ap (lists path) (followed_nothing after)

pub followed_assoc : {A : Type 0} (f g h : Forest A) → followed_by (followed_by f g) h ≡ followed_by f
    (followed_by g h)
followed_assoc nothing g h = refl
followed_assoc (item x below after) g h = ap (item x below) (followed_assoc after g h)
followed_assoc (lists path after) g h = ap (lists path) (followed_assoc after g h)

at_depth_followed : (scope : WalkScope) (depth : ℕ) (x : Given) (below f g : Forest Given)
    → followed_by (at_depth scope depth x below f) g ≡ at_depth scope depth x below (followed_by f g)
at_depth_followed scope depth x below f g = go (nat_lt depth scope.min) where
  go : (b : Bool) → followed_by (cond b (followed_by below f) (item x below f)) g ≡ cond b
      (followed_by below (followed_by f g)) (item x below (followed_by f g))
  go true = followed_assoc below f g
  go false = refl

-- the first item of a folder and what comes after it
pub headed_is : (scope : WalkScope) (at : Location) (x : Listed) (l : Items) (g : Forest Given)
    → Some x ≡ first_item l
    → followed_by (items_forest scope at l) g ≡ first_item_forest scope at l
    (followed_by (items_forest scope at (rest_of l)) g)
headed_is scope at x end g h = cc
headed_is scope at x (leaf y link rest) g h = at_depth_followed scope at.depth _ nothing
    (items_forest scope at rest) g
headed_is scope at x (folder y inner rest) g h = at_depth_followed scope at.depth _ _
    (items_forest scope at rest) g
headed_is scope at x (sealed y rest) g h = at_depth_followed scope at.depth _ _ (items_forest scope at rest) g
headed_is scope at x (misnamed y kind rest) g h = refl
headed_is scope at x (unread rest) g h = refl
headed_is scope at x (not_text rest) g h = refl

-- ---- the first item of a folder

module _ (scope : WalkScope) (at : Location) where
  -- what is under a plain name
  pub takes_name : (shows : List ℕ → Shown → Type 0) (x : List ℕ) (kind : FileType) (l : Items)
      (g : Forest Given) → Some (named x kind) ≡ first_item l → IsPlain x → ShowsIn shows at.path l
      → (s : Shown) × shows (join at.path x) s × HasKind s kind × (own_count l ≡ count_shown s) ×
      (first_item_forest scope at l g ≡ entry_forest scope (item_location at x) kind s g)
  takes_name shows x kind end g h q i = cc
  takes_name shows x kind (leaf y link rest) g h q i =
      let e : x ≡ y = cc in let k : kind ≡ leaf_kind link = cc in
      (a_leaf link, subst (λ v. shows (join at.path v) (a_leaf link)) (sym e) i.1, k, refl, cc)
  takes_name shows x kind (folder y inner rest) g h q i =
      let e : x ≡ y = cc in let k : kind ≡ F.Folder = cc in
      (a_folder inner, subst (λ v. shows (join at.path v) (a_folder inner)) (sym e) i.1, k, refl, cc)
  takes_name shows x kind (sealed y rest) g h q i =
      let e : x ≡ y = cc in let k : kind ≡ F.Folder = cc in
      (a_sealed, subst (λ v. shows (join at.path v) a_sealed) (sym e) i.1, k, refl, cc)
  takes_name shows x kind (misnamed y other rest) g h q i = let e : x ≡ y =
      cc in absurd (i.0 (subst IsPlain e q))
  takes_name shows x kind (unread rest) g h q i = cc
  takes_name shows x kind (not_text rest) g h q i = cc

  -- a name that no path can hold
  pub takes_misnamed : (shows : List ℕ → Shown → Type 0) (x : List ℕ) (kind : FileType) (l : Items)
      (g : Forest Given) → Some (named x kind) ≡ first_item l → ¬ (IsPlain x) → ShowsIn shows at.path l
      → first_item_forest scope at l g ≡ item (fault BadName at.path (at.depth - 1)) nothing g
  takes_misnamed shows x kind end g h q i = cc
  takes_misnamed shows x kind (leaf y link rest) g h q i = let e : x ≡ y =
      cc in absurd (q (subst IsPlain (sym e) i.0))
  takes_misnamed shows x kind (folder y inner rest) g h q i = let e : x ≡ y =
      cc in absurd (q (subst IsPlain (sym e) i.0))
  takes_misnamed shows x kind (sealed y rest) g h q i = let e : x ≡ y =
      cc in absurd (q (subst IsPlain (sym e) i.0))
  takes_misnamed shows x kind (misnamed y other rest) g h q i = refl
  takes_misnamed shows x kind (unread rest) g h q i = cc
  takes_misnamed shows x kind (not_text rest) g h q i = cc

  pub takes_failed : (l : Items) (g : Forest Given) → Some no_item ≡ first_item l
      → first_item_forest scope at l g ≡ item (fault Listing at.path (at.depth - 1)) nothing g
  takes_failed (unread rest) g h = refl
  takes_failed end g h = cc
  takes_failed (leaf y link rest) g h = cc
  takes_failed (folder y inner rest) g h = cc
  takes_failed (sealed y rest) g h = cc
  takes_failed (misnamed y kind rest) g h = cc
  takes_failed (not_text rest) g h = cc

  pub takes_not_text : (l : Items) (g : Forest Given) → Some no_name ≡ first_item l
      → first_item_forest scope at l g ≡ item (fault NotText at.path (at.depth - 1)) nothing g
  takes_not_text (not_text rest) g h = refl
  takes_not_text end g h = cc
  takes_not_text (leaf y link rest) g h = cc
  takes_not_text (folder y inner rest) g h = cc
  takes_not_text (sealed y rest) g h = cc
  takes_not_text (misnamed y kind rest) g h = cc
  takes_not_text (unread rest) g h = cc
