-- Only what is at or below the last name of the origin, and not past the greatest depth, is wanted.
use Rattle.std.proofs.Common.{◌≡◌, ℕ, ◌<◌, ◌≤◌, Bool, true, false, cond, List, [], ◌∷◌, ◌++◌, length, refl}
use Rattle.std.proofs.Common.{sym, ap, subst, ◌∙◌, inl, inr, arith, append_assoc, append-nil, length-append}
use Rattle.std.proofs.{lemmas.Bool.{ltb-true, lt-ltb, cases_lt}, lemmas.List.append_cancel_left}
use Rattle.std.proofs.{lemmas.List.Elements.filter-append, lemmas.Slice.Eq.bytes_eq-Decides}
use Rattle.std.specs.{Prelude.{filter, nat_lt}, Str.bytes_eq}
use Rattle.wax_directory.specs.declared.directory.FileType.{FileType}
use Rattle.wax_directory.specs.declared.directory.FileType.TheVariants.{Folder}
use Rattle.wax_directory.specs.Shown.{Items, end, leaf, folder, sealed, misnamed, unread, not_text, Shown}
use Rattle.wax_directory.specs.Shown.{a_leaf, a_folder, a_sealed, missing, failing, leaf_kind, IsPlain}
use Rattle.wax_directory.specs.Shown.{child_in, IsNew, AreDistinct, IsDistinct}
use Rattle.wax_tree.specs.Follows.{AreDistinctAlong, AreDistinctHere}
use Rattle.wax_tree.specs.Plain.{WalkScope, Location, one_deeper, plain_entry, items_forest, below_forest}
use Rattle.wax_tree.specs.{Plain.plain_at, Prefix.{ArePlain, walk_from}}
use Rattle.wax_walk.proofs.Collecting.{preorder_append}
use Rattle.wax_walk.specs.declared.error.FaultKind.{FaultKind}
use Rattle.wax_walk.specs.declared.error.FaultKind.TheVariants.{NotFound, NotAFolder, Listing}
use Rattle.wax_walk.specs.{Forest.{Forest, nothing, item, lists, preorder, followed_by}, Given.{Given, fault}}
use Rattle.wax_exclude.proofs.{Names.at_join, Walked.{same_filter, agree_inside}}
use Rattle.wax_exclude.specs.{inner.Descents.{At, child_location}, Premises.{ArePlainItems, IsPlainShown}}

same_name : (y x : List ℕ) → bytes_eq y x ≡ true → y ≡ x
same_name y x e = (bytes_eq-Decides y x).0 e

other_name : (y x : List ℕ) → bytes_eq y x ≡ false → ¬ (y ≡ x)
other_name y x e i =
    let t : bytes_eq y x ≡ true = (bytes_eq-Decides y x).1 i in
    let w : true ≡ false = sym t ∙ e in
    cc

pub plain_child : (x : List ℕ) (l : Items) → ArePlainItems l → IsPlainShown (child_in x l)
plain_child x end t = tt
plain_child x (leaf y link rest) t = go (bytes_eq y x) (plain_child x rest t.1) where
  go : (b : Bool) → IsPlainShown (child_in x rest) → IsPlainShown (cond b (a_leaf link) (child_in x rest))
  go true h = tt
  go false h = h
plain_child x (folder y inner rest) t = go (bytes_eq y x) (plain_child x rest t.2) where
  go : (b : Bool) → IsPlainShown (child_in x rest) → IsPlainShown (cond b (a_folder inner) (child_in x rest))
  go true h = t.1
  go false h = h
plain_child x (sealed y rest) t = go (bytes_eq y x) (plain_child x rest t.1) where
  go : (b : Bool) → IsPlainShown (child_in x rest) → IsPlainShown (cond b a_sealed (child_in x rest))
  go true h = tt
  go false h = h
plain_child x (misnamed y kind rest) t = plain_child x rest t
plain_child x (unread rest) t = plain_child x rest t
plain_child x (not_text rest) t = plain_child x rest t

distinct_child : (x : List ℕ) (l : Items) → AreDistinct l → IsDistinct (child_in x l)
distinct_child x end t = tt
distinct_child x (leaf y link rest) t = go (bytes_eq y x) (distinct_child x rest t.1) where
  go : (b : Bool) → IsDistinct (child_in x rest) → IsDistinct (cond b (a_leaf link) (child_in x rest))
  go true h = tt
  go false h = h
distinct_child x (folder y inner rest) t = go (bytes_eq y x) (distinct_child x rest t.2) where
  go : (b : Bool) → IsDistinct (child_in x rest) → IsDistinct (cond b (a_folder inner) (child_in x rest))
  go true h = t.1
  go false h = h
distinct_child x (sealed y rest) t = go (bytes_eq y x) (distinct_child x rest t.1) where
  go : (b : Bool) → IsDistinct (child_in x rest) → IsDistinct (cond b a_sealed (child_in x rest))
  go true h = tt
  go false h = h
distinct_child x (misnamed y kind rest) t = distinct_child x rest t
distinct_child x (unread rest) t = distinct_child x rest t
distinct_child x (not_text rest) t = distinct_child x rest t

distinct_here : (l : Items) → AreDistinct l → AreDistinctHere l
distinct_here end d = tt
distinct_here (leaf x link rest) d = (d.0, distinct_here rest d.1)
distinct_here (folder x inner rest) d = (d.0, distinct_here rest d.2)
distinct_here (sealed x rest) d = (d.0, distinct_here rest d.1)
distinct_here (misnamed x kind rest) d = distinct_here rest d
distinct_here (unread rest) d = distinct_here rest d
distinct_here (not_text rest) d = distinct_here rest d

-- names that are distinct in each folder are so in those on the way
pub distinct_along : (names : List (List ℕ)) (s : Shown) → IsDistinct s → AreDistinctAlong names s
distinct_along [] s d = tt
distinct_along (x ∷ names) (a_leaf link) d = tt
distinct_along (x ∷ names) (a_folder l) d =
    (distinct_here l d, distinct_along names (child_in x l) (distinct_child x l d))
distinct_along (x ∷ names) a_sealed d = tt
distinct_along (x ∷ names) missing d = tt
distinct_along (x ∷ names) failing d = tt

abbrev pub never : Given → Bool
never x = false

pub none_of : (xs : List Given) → filter never xs ≡ []
none_of [] = refl
none_of (x ∷ xs) = none_of xs

module _ (p : Given → Bool)
    (no_faults : (kind : FaultKind) (path : List ℕ) (depth : ℕ) → p (fault kind path depth) ≡ false) where
  -- what is wanted of a forest
  abbrev of : Forest Given → List Given
  of f = filter p (preorder f)

  pub of_followed : (f g : Forest Given) → of (followed_by f g) ≡ of f ++ of g
  of_followed f g = ap (filter p) (preorder_append f g) ∙ filter-append p (preorder f) (preorder g)

  pub of_item : (x : Given) (below after : Forest Given)
      → of (item x below after) ≡ cond (p x) (x ∷ (of below ++ of after)) (of below ++ of after)
  of_item x below after =
      ap (λ ys. cond (p x) (x ∷ ys) ys) (filter-append p (preorder below) (preorder after))

  of_unwanted : (x : Given) (below after : Forest Given) → p x ≡ false
      → of (item x below after) ≡ of below ++ of after
  of_unwanted x below after e =
      of_item x below after ∙ ap (λ b. cond b (x ∷ (of below ++ of after)) (of below ++ of after)) e

  pub of_fault : (kind : FaultKind) (path : List ℕ) (depth : ℕ) (after : Forest Given)
      → of (item (fault kind path depth) nothing after) ≡ of after
  of_fault kind path depth after = of_unwanted (fault kind path depth) nothing after
      (no_faults kind path depth)

  -- an entry that isn't wanted
  pub of_unless : (b : Bool) (x : Given) (below after : Forest Given) → p x ≡ false
      → of (cond b (followed_by below after) (item x below after)) ≡ of below ++ of after
  of_unless true x below after e = of_followed below after
  of_unless false x below after e = of_unwanted x below after e

  same_unless : (b : Bool) (x : Given) (below below' after after' : Forest Given) → of below ≡ of below'
      → of after ≡ of after' → of (cond b (followed_by below after) (item x below after))
      ≡ of (cond b (followed_by below' after') (item x below' after'))
  same_unless true x below below' after after' e f =
      of_followed below after ∙ ap (λ v. v ++ of after) e ∙ ap (λ v. of below' ++ v) f
      ∙ sym (of_followed below' after')
  same_unless false x below below' after after' e f =
      of_item x below after ∙ ap (λ v. cond (p x) (x ∷ (v ++ of after)) (v ++ of after)) e
      ∙ ap (λ v. cond (p x) (x ∷ (of below' ++ v)) (of below' ++ v)) f ∙ sym (of_item x below' after')

  module _ (rooted : Bool) where
    -- ---- nothing is wanted past a depth

    module _ (min : ℕ) (less max : ℕ) (le : less ≤ max) where
      abbrev few : WalkScope
      few = record { min = min; max = less }

      abbrev all : WalkScope
      all = record { min = min; max = max }

      abbrev few_in : Location → Items → Forest Given
      few_in at l = items_forest few (one_deeper at) l

      abbrev all_in : Location → Items → Forest Given
      all_in at l = items_forest all (one_deeper at) l

      module _ (past : (at : Location) (kind : FileType) (names : List (List ℕ)) → At rooted at names
          → less < at.depth
          → p (plain_entry at kind) ≡ false) where
        deep_none : (at : Location) (names : List (List ℕ)) (l : Items) → less ≤ at.depth → At rooted at names
            → ArePlainItems l → of (all_in at l) ≡ []
        deep_none at names l d a t =
            same_filter p never (all_in at l)
            (agree_inside p never rooted all (λ ns. less < length ns)
            (λ ns x d' g. (let n = length-append ns (x ∷ []) in omega (arith, g, n)))
            (λ c k ns h g. past c k ns h (omega (arith, g, h.depth_is))) no_faults at names l a t
            (λ x. (let n = length-append names (x ∷ []) in omega (arith, d, a.depth_is, n))))
            ∙ none_of (preorder (all_in at l))

        -- what is wanted below a folder, to the one depth or the other
        same_below : (at : Location) (f g : Forest Given) → of f ≡ of g → (less ≤ at.depth → of g ≡ [])
            → (b c : Bool)
            → nat_lt at.depth less ≡ b → nat_lt at.depth max ≡ c
            → of (cond b (lists at.path f) nothing) ≡ of (cond c (lists at.path g) nothing)
        same_below at f g e n true true i j = e
        same_below at f g e n true false i j = absurd (
            let l = ltb-true at.depth less i in
            let w : true ≡ false = sym (lt-ltb at.depth max (omega (arith, l, le))) ∙ j in
            cc
            )
        same_below at f g e n false true i j = elim (cases_lt at.depth less) [
          | inl l ↦ absurd (let w : true ≡ false = sym (lt-ltb at.depth less l) ∙ i in cc)
          | inr l ↦ sym (n l)
        ]
        same_below at f g e n false false i j = refl

        -- what is wanted of an entry and below it, to the one depth or the other
        same_entry : (at : Location) (f g after after' : Forest Given) → of f ≡ of g
            → (less ≤ at.depth → of g ≡ [])
            → of after ≡ of after'
            → of (cond (nat_lt at.depth min) (followed_by
            (cond (nat_lt at.depth less) (lists at.path f) nothing) after)
            (item (plain_entry at Folder) (cond (nat_lt at.depth less) (lists at.path f) nothing) after))
            ≡ of (cond (nat_lt at.depth min)
            (followed_by (cond (nat_lt at.depth max) (lists at.path g) nothing) after')
            (item (plain_entry at Folder) (cond (nat_lt at.depth max) (lists at.path g) nothing) after'))
        same_entry at f g after after' e n i =
            same_unless (nat_lt at.depth min) (plain_entry at Folder)
            (cond (nat_lt at.depth less) (lists at.path f) nothing)
            (cond (nat_lt at.depth max) (lists at.path g) nothing) after after'
            (same_below at f g e n (nat_lt at.depth less) (nat_lt at.depth max) refl refl) i

        same_inside : (at : Location) (names : List (List ℕ)) (l : Items)
            → At rooted at names → ArePlainItems l
            → of (few_in at l) ≡ of (all_in at l)
        same_inside at names end a t = refl
        same_inside at names (leaf x link rest) a t =
            let c = child_location at x in
            same_unless (nat_lt c.depth min) (plain_entry c (leaf_kind link)) nothing nothing
            (few_in at rest)
            (all_in at rest) refl (same_inside at names rest a t.1)
        same_inside at names (folder x inner rest) a t =
            let h = at_join rooted at names x a t.0 in
            let c = child_location at x in
            same_entry c (few_in c inner) (all_in c inner) (few_in at rest) (all_in at rest)
            (same_inside c (names ++ x ∷ []) inner h t.1) (λ d. deep_none c (names ++ x ∷ []) inner d h t.1)
            (same_inside at names rest a t.2)
        same_inside at names (sealed x rest) a t =
            let c = child_location at x in
            let f = item (fault Listing c.path c.depth) nothing nothing in
            same_entry c f f (few_in at rest) (all_in at rest) refl
            (λ d. of_fault Listing c.path c.depth nothing)
            (same_inside at names rest a t.1)
        same_inside at names (misnamed x kind rest) a t =
            of_fault _ _ _ (few_in at rest) ∙ same_inside at names rest a t
            ∙ sym (of_fault _ _ _ (all_in at rest))
        same_inside at names (unread rest) a t =
            of_fault _ _ _ (few_in at rest) ∙ same_inside at names rest a t
            ∙ sym (of_fault _ _ _ (all_in at rest))
        same_inside at names (not_text rest) a t =
            of_fault _ _ _ (few_in at rest) ∙ same_inside at names rest a t
            ∙ sym (of_fault _ _ _ (all_in at rest))

        same_depths : (at : Location) (names : List (List ℕ)) (s : Shown)
            → At rooted at names → IsPlainShown s
            → of (plain_at few at s nothing) ≡ of (plain_at all at s nothing)
        same_depths at names (a_leaf link) a t = refl
        same_depths at names (a_folder l) a t =
            same_entry at (few_in at l) (all_in at l) nothing nothing (same_inside at names l a t)
            (λ d. deep_none at names l d a t) refl
        same_depths at names a_sealed a t =
            let f = item (fault Listing at.path at.depth) nothing nothing in
            same_entry at f f nothing nothing refl (λ d. of_fault Listing at.path at.depth nothing) refl
        same_depths at names missing a t = refl
        same_depths at names failing a t = refl

        -- a walk that ends where nothing more is wanted
        pub same_walk : (names : List (List ℕ)) (at : Location) (done : List (List ℕ)) (s : Shown)
            → ArePlain names
            → At rooted at done → IsPlainShown s
            → of (walk_from few at s names nothing) ≡ of (walk_from all at s names nothing)
        same_walk [] at done s n a t = same_depths at done s a t
        same_walk (x ∷ names) at done (a_leaf link) n a t = refl
        same_walk (x ∷ names) at done a_sealed n a t = refl
        same_walk (x ∷ names) at done missing n a t = refl
        same_walk (x ∷ names) at done failing n a t = refl
        same_walk (x ∷ names) at done (a_folder l) n a t =
            same_walk names (child_location at x) (done ++ x ∷ []) (child_in x l) n.1
            (at_join rooted at done x a n.0)
            (plain_child x l t)

    -- ---- nothing is wanted that isn't at or below the last name of the origin

    module _ (scope : WalkScope) (target : List (List ℕ))
        (beyond : (at : Location) (kind : FileType) (names : List (List ℕ)) → At rooted at names
        → ((rest : List (List ℕ)) → ¬ (names ≡ target ++ rest)) → p (plain_entry at kind) ≡ false) where
      abbrev in_folder : Location → Items → Forest Given
      in_folder at l = items_forest scope (one_deeper at) l

      abbrev low : Location → Bool
      low at = nat_lt at.depth scope.min

      abbrev high : Location → Bool
      high at = nat_lt at.depth scope.max

      apart : (done names rest more : List (List ℕ)) (x y : List ℕ) → done ++ x ∷ names ≡ target
          → done ++ y ∷ more ≡ target ++ rest → y ≡ x
      apart done names rest more x y e f =
          let g : y ∷ more ≡ x ∷ (names ++ rest) =
          append_cancel_left done (y ∷ more) (x ∷ (names ++ rest))
          (f ∙ ap (λ v. v ++ rest) (sym e) ∙ append_assoc done (x ∷ names) rest) in
          (cc)

      too_few : (done names rest : List (List ℕ)) (x : List ℕ) → done ++ x ∷ names ≡ target
          → done ≡ target ++ rest
          → ⊥
      too_few done names rest x e f =
          let n : length done ≡ length (target ++ rest) = ap length f in
          let m : length (done ++ x ∷ names) ≡ length target = ap length e in
          omega (arith, n, m, length-append target rest, length-append done (x ∷ names))

      module _ (done names : List (List ℕ)) (x : List ℕ) (aim : done ++ x ∷ names ≡ target) where
        -- an item of another name, and what lies below it
        sibling : (at : Location) (kind : FileType) (y : List ℕ) → At rooted at (done ++ y ∷ []) → ¬ (y ≡ x)
            → p (plain_entry at kind) ≡ false
        sibling at kind y a n =
            beyond at kind (done ++ y ∷ []) a (λ rest e. n (apart done names rest [] x y aim e))

        below_sibling : (at : Location) (y : List ℕ) (l : Items)
            → At rooted at (done ++ y ∷ []) → ArePlainItems l
            → ¬ (y ≡ x) → of (in_folder at l) ≡ []
        below_sibling at y l a t n =
            same_filter p never (in_folder at l)
            (agree_inside p never rooted scope (λ ns. (more : List (List ℕ)) × (ns ≡ done ++ y ∷ more))
            (λ ns z d g. (g.0 ++ z ∷ [], ap (λ v. v ++ z ∷ []) g.1 ∙ append_assoc done (y ∷ g.0) (z ∷ [])))
            (λ c k ns h g. beyond c k ns h (λ rest e. n (apart done names rest g.0 x y aim (sym g.1 ∙ e))))
            no_faults at (done ++ y ∷ []) l a t (λ z. (z ∷ [], append_assoc done (y ∷ []) (z ∷ []))))
            ∙ none_of (preorder (in_folder at l))

        of_listed : (b : Bool) (path : List ℕ) (f : Forest Given) → of f ≡ []
            → of (cond b (lists path f) nothing) ≡ []
        of_listed true path f e = e
        of_listed false path f e = refl

        unwanted_leaf : (at : Location) (y : List ℕ) (kind : FileType) (rest : Forest Given)
            → At rooted at done
            → IsPlain y → ¬ (y ≡ x)
            → of (cond (low (child_location at y)) (followed_by nothing rest)
            (item (plain_entry (child_location at y) kind) nothing rest)) ≡ of rest
        unwanted_leaf at y kind rest a t n =
            of_unless (low (child_location at y)) (plain_entry (child_location at y) kind) nothing rest
            (sibling (child_location at y) kind y (at_join rooted at done y a t) n)

        abbrev folder_forest : Location → Forest Given → Forest Given → Forest Given
        folder_forest at inner rest = cond (low at) (followed_by
            (cond (high at) (lists at.path inner) nothing) rest)
            (item (plain_entry at Folder) (cond (high at) (lists at.path inner) nothing) rest)

        unwanted_folder : (at : Location) (y : List ℕ) (inner rest : Forest Given)
            → At rooted at done → IsPlain y
            → ¬ (y ≡ x) → of inner ≡ [] → of (folder_forest (child_location at y) inner rest) ≡ of rest
        unwanted_folder at y inner rest a t n e =
            let c = child_location at y in
            of_unless (low c) (plain_entry c Folder) (cond (high c) (lists c.path inner) nothing) rest
            (sibling c Folder y (at_join rooted at done y a t) n)
            ∙ ap (λ v. v ++ of rest) (of_listed (high c) c.path inner e)

        -- where no item has the name nothing is wanted
        none_in : (at : Location) (l : Items) → At rooted at done → ArePlainItems l → IsNew x l
            → of (in_folder at l) ≡ []
        none_in at end a t n = refl
        none_in at (leaf y link rest) a t n =
            unwanted_leaf at y (leaf_kind link) (in_folder at rest) a t.0 n.0 ∙ none_in at rest a t.1 n.1
        none_in at (folder y inner rest) a t n =
            unwanted_folder at y (in_folder (child_location at y) inner) (in_folder at rest) a t.0 n.0
            (below_sibling (child_location at y) y inner (at_join rooted at done y a t.0) t.1 n.0)
            ∙ none_in at rest a t.2 n.1
        none_in at (sealed y rest) a t n =
            let c = child_location at y in
            unwanted_folder at y (item (fault Listing c.path c.depth) nothing nothing) (in_folder at rest) a
            t.0 n.0
            (of_fault Listing c.path c.depth nothing) ∙ none_in at rest a t.1 n.1
        none_in at (misnamed y kind rest) a t n = of_fault _ _ _ (in_folder at rest) ∙ none_in at rest a t n
        none_in at (unread rest) a t n = of_fault _ _ _ (in_folder at rest) ∙ none_in at rest a t n
        none_in at (not_text rest) a t n = of_fault _ _ _ (in_folder at rest) ∙ none_in at rest a t n

        abbrev only : Location → Shown → Forest Given
        only at s = plain_at scope (child_location at x) s nothing

        abbrev IsRest : Location → Items → Type 0
        IsRest at rest = of (in_folder at rest) ≡ of (only at (child_in x rest))

        only_leaf : (at : Location) (y : List ℕ) (link : Bool) (rest : Items) → At rooted at done → IsPlain y
            → ArePlainItems rest → IsRest at rest → (b : Bool) → (b ≡ true → y ≡ x) → (b ≡ false → ¬ (y ≡ x))
            → (y ≡ x → IsNew x rest)
            → of (in_folder at (leaf y link rest)) ≡ of (only at (cond b (a_leaf link) (child_in x rest)))
        only_leaf at y link rest a t u ih true e f new =
            same_unless (low (child_location at y))
            (plain_entry (child_location at y) (leaf_kind link)) nothing
            nothing
            (in_folder at rest) nothing refl (none_in at rest a u (new (e refl)))
            ∙ ap (λ v. of (plain_at scope (child_location at v) (a_leaf link) nothing)) (e refl)
        only_leaf at y link rest a t u ih false e f new =
            unwanted_leaf at y (leaf_kind link) (in_folder at rest) a t (f refl) ∙ ih

        only_folder : (at : Location) (y : List ℕ) (inner rest : Items) → At rooted at done → IsPlain y
            → ArePlainItems inner → ArePlainItems rest → IsRest at rest → (b : Bool) → (b ≡ true → y ≡ x)
            → (b ≡ false → ¬ (y ≡ x)) → (y ≡ x → IsNew x rest)
            → of (in_folder at (folder y inner rest)) ≡ of
            (only at (cond b (a_folder inner) (child_in x rest)))
        only_folder at y inner rest a t v u ih true e f new =
            let c = child_location at y in
            let below = below_forest scope c (a_folder inner) in
            same_unless (low c) (plain_entry c Folder) below below (in_folder at rest) nothing refl
            (none_in at rest a u (new (e refl)))
            ∙ ap (λ v. of (plain_at scope (child_location at v) (a_folder inner) nothing)) (e refl)
        only_folder at y inner rest a t v u ih false e f new =
            unwanted_folder at y (in_folder (child_location at y) inner) (in_folder at rest) a t (f refl)
            (below_sibling (child_location at y) y inner (at_join rooted at done y a t) v (f refl)) ∙ ih

        only_sealed : (at : Location) (y : List ℕ) (rest : Items) → At rooted at done → IsPlain y
            → ArePlainItems rest
            → IsRest at rest → (b : Bool) → (b ≡ true → y ≡ x) → (b ≡ false → ¬ (y ≡ x))
            → (y ≡ x → IsNew x rest)
            → of (in_folder at (sealed y rest)) ≡ of (only at (cond b a_sealed (child_in x rest)))
        only_sealed at y rest a t u ih true e f new =
            let c = child_location at y in
            let below = below_forest scope c a_sealed in
            same_unless (low c) (plain_entry c Folder) below below (in_folder at rest) nothing refl
            (none_in at rest a u (new (e refl)))
            ∙ ap (λ v. of (plain_at scope (child_location at v) a_sealed nothing)) (e refl)
        only_sealed at y rest a t u ih false e f new =
            let c = child_location at y in
            unwanted_folder at y (item (fault Listing c.path c.depth) nothing nothing) (in_folder at rest) a t
            (f refl)
            (of_fault Listing c.path c.depth nothing) ∙ ih

        -- of a folder only what has the name is wanted
        only_child : (at : Location) (l : Items) → At rooted at done → ArePlainItems l → AreDistinctHere l
            → of (in_folder at l) ≡ of (only at (child_in x l))
        only_child at end a t u =
            sym (of_fault NotFound (child_location at x).path (child_location at x).depth
            nothing)
        only_child at (leaf y link rest) a t u =
            only_leaf at y link rest a t.0 t.1 (only_child at rest a t.1 u.1) (bytes_eq y x) (same_name y x)
            (other_name y x) (λ e. subst (λ v. IsNew v rest) e u.0)
        only_child at (folder y inner rest) a t u =
            only_folder at y inner rest a t.0 t.1 t.2 (only_child at rest a t.2 u.1) (bytes_eq y x)
            (same_name y x)
            (other_name y x) (λ e. subst (λ v. IsNew v rest) e u.0)
        only_child at (sealed y rest) a t u =
            only_sealed at y rest a t.0 t.1 (only_child at rest a t.1 u.1) (bytes_eq y x) (same_name y x)
            (other_name y x) (λ e. subst (λ v. IsNew v rest) e u.0)
        only_child at (misnamed y kind rest) a t u = of_fault _ _ _ (in_folder at rest)
            ∙ only_child at rest a t u
        only_child at (unread rest) a t u = of_fault _ _ _ (in_folder at rest) ∙ only_child at rest a t u
        only_child at (not_text rest) a t u = of_fault _ _ _ (in_folder at rest) ∙ only_child at rest a t u

        short : (at : Location) (kind : FileType) → At rooted at done → p (plain_entry at kind) ≡ false
        short at kind a = beyond at kind done a (λ rest e. too_few done names rest x aim e)

        -- of what is shown here only what has the name is wanted
        step_in : (at : Location) (l : Items) → At rooted at done → ArePlainItems l → AreDistinctHere l
            → length target ≤ scope.max
            → of (plain_at scope at (a_folder l) nothing) ≡ of (only at (child_in x l))
        step_in at l a t u m =
            let n : length (done ++ x ∷ names) ≡ length target = ap length aim in
            let lt : high at ≡ true = lt-ltb at.depth scope.max
            (omega (arith, n, m, a.depth_is, length-append done (x ∷ names))) in
            of_unless (low at) (plain_entry at Folder) (below_forest scope at (a_folder l)) nothing
            (short at Folder a)
            ∙ append-nil (of (below_forest scope at (a_folder l)))
            ∙ ap (λ b. of (cond b (lists at.path (in_folder at l)) nothing)) lt
            ∙ only_child at l a t u

        stuck_leaf : (at : Location) (link : Bool) → At rooted at done
            → of (plain_at scope at (a_leaf link) nothing) ≡ []
        stuck_leaf at link a =
            of_unless (low at) (plain_entry at (leaf_kind link)) nothing nothing
            (short at (leaf_kind link) a)

        stuck_sealed : (at : Location) → At rooted at done → of (plain_at scope at a_sealed nothing) ≡ []
        stuck_sealed at a =
            of_unless (low at) (plain_entry at Folder) (below_forest scope at a_sealed) nothing
            (short at Folder a)
            ∙ append-nil (of (below_forest scope at a_sealed))
            ∙ of_listed (high at) at.path (item (fault Listing at.path at.depth) nothing nothing)
            (of_fault Listing at.path at.depth nothing)

      -- what is wanted of the whole walk is what is wanted of the walk from the last name of the origin
      pub reached : (names : List (List ℕ)) (at : Location) (done : List (List ℕ)) (s : Shown)
          → done ++ names ≡ target
          → ArePlain names → At rooted at done → IsPlainShown s → AreDistinctAlong names s
          → length target ≤ scope.max
          → of (walk_from scope at s names nothing) ≡ of (plain_at scope at s nothing)
      reached [] at done s e n a t u m = refl
      reached (x ∷ names) at done (a_leaf link) e n a t u m =
          of_fault NotAFolder at.path at.depth nothing ∙ sym (stuck_leaf done names x e at link a)
      reached (x ∷ names) at done a_sealed e n a t u m =
          let c = child_location at x in
          of_fault Listing c.path c.depth nothing ∙ sym (stuck_sealed done names x e at a)
      reached (x ∷ names) at done missing e n a t u m = refl
      reached (x ∷ names) at done failing e n a t u m = refl
      reached (x ∷ names) at done (a_folder l) e n a t u m =
          reached names (child_location at x) (done ++ x ∷ []) (child_in x l)
          (append_assoc done (x ∷ []) names ∙ e) n.1
          (at_join rooted at done x a n.0) (plain_child x l t) u.1 m
          ∙ sym (step_in done names x e at l a t u.0 m)
