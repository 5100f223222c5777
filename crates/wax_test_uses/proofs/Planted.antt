-- What is shown of a directory that is built from a list of paths, down to all that is in it.
use Rattle.std.proofs.Common.{◌≡◌, ◌∙◌, ℕ, Bool, true, false, List, [], ◌∷◌, refl, sym, ap, subst}
use Rattle.std.specs.{Prelude.{⊤, MatchBool}, List.list_any}
use Rattle.wax.specs.Walks.{Folder, HoldsBy, IsPlain, Items, PathTail, Shown, ShowsIn, StandsBy, a_folder}
use Rattle.wax.specs.Walks.{a_leaf, a_sealed, end, folder, join, leaf, leaf_kind, leads_on, listing}
use Rattle.wax.specs.Walks.{listing_by, misnamed, not_text, sealed, tails_to, unread}

-- a folder is where these tails begin
abbrev pub AreOfFolder : List PathTail → Type 0
AreOfFolder [] = ⊥
AreOfFolder (r ∷ tails) = list_any leads_on (r ∷ tails) ≡ true

module _ (paths : List (List ℕ)) where
  -- by the paths, the folders among these items, which are at this path, hold what the items say
  abbrev pub HoldsBelow : List ℕ → Items → Type 0
  HoldsBelow path end = ⊤
  HoldsBelow path (leaf x link rest) = IsPlain x × HoldsBelow path rest
  HoldsBelow path (folder x inner rest) =
      IsPlain x × (AreOfFolder (tails_to (join path x) paths)
      × (listing inner ≡ listing_by (tails_to (join path x) paths)) × HoldsBelow (join path x) inner)
      × HoldsBelow path rest
  HoldsBelow path (sealed x rest) = ⊥
  HoldsBelow path (misnamed x kind rest) = ⊥
  HoldsBelow path (unread rest) = ⊥
  HoldsBelow path (not_text rest) = ⊥

  -- by the paths, a folder is at this path, and holds these items
  abbrev pub HoldsAll : List ℕ → Items → Type 0
  HoldsAll path l =
      AreOfFolder (tails_to path paths) × (listing l ≡ listing_by (tails_to path paths)) × HoldsBelow path l

-- ---- by listings

folder_there : (tails : List PathTail) (s : Shown) → AreOfFolder tails → StandsBy tails s → HoldsBy tails s
folder_there [] s a h = absurd a
folder_there (r ∷ tails) s a h =
    subst (λ b. MatchBool b (HoldsBy (r ∷ tails) s) (s ≡ a_leaf false)) a h

leaf_not_folder : (link : Bool) → leaf_kind link ≡ Folder → ⊥
leaf_not_folder true e = cc
leaf_not_folder false e = cc

same_link : (link other : Bool) → leaf_kind link ≡ leaf_kind other → link ≡ other
same_link true true e = refl
same_link true false e = cc
same_link false true e = cc
same_link false false e = refl

-- what is shown at a path is one thing, and each entry of a folder is shown at its path
module _ (shows : List ℕ → Shown → Type 0)
    (only_one : (path : List ℕ) (s u : Shown) → shows path s → shows path u → s ≡ u)
    (shows_inner : (path : List ℕ) (l : Items) → shows path (a_folder l) → ShowsIn shows path l)
    (paths : List (List ℕ))
    (stands : (path : List ℕ) → (s : Shown) × shows path s × StandsBy (tails_to path paths) s) where
  -- a path where a folder is
  a_folder_at : (path : List ℕ) → AreOfFolder (tails_to path paths)
      → (l : Items) × shows path (a_folder l) × (listing l ≡ listing_by (tails_to path paths))
  a_folder_at path a =
      let s = stands path in
      let h = folder_there (tails_to path paths) s.0 a s.2 in
      (h.0, subst (shows path) h.1 s.1, h.2)

  same_items : (l k : Items) (path : List ℕ) → listing k ≡ listing l → HoldsBelow paths path l
      → ShowsIn (shows) path k → k ≡ l
  same_items end end path e h s = refl
  same_items end (leaf y link k) path e h s = cc
  same_items end (folder y inner k) path e h s = cc
  same_items end (sealed y k) path e h s = cc
  same_items end (misnamed y kind k) path e h s = cc
  same_items end (unread k) path e h s = cc
  same_items end (not_text k) path e h s = cc
  same_items (leaf x link l) end path e h s = cc
  same_items (leaf x link l) (leaf y other k) path e h s =
      let f : k ≡ l = same_items l k path (cc) h.1 s.2 in
      let g : other ≡ link = same_link other link (cc) in
      let n : y ≡ x = cc in cc
  same_items (leaf x link l) (folder y inner k) path e h s = absurd (leaf_not_folder link (cc))
  same_items (leaf x link l) (sealed y k) path e h s = absurd (leaf_not_folder link (cc))
  same_items (leaf x link l) (misnamed y kind k) path e h s =
      let n : x ≡ y = cc in absurd (s.0 (subst IsPlain n h.0))
  same_items (leaf x link l) (unread k) path e h s = cc
  same_items (leaf x link l) (not_text k) path e h s = cc
  same_items (folder x inner l) end path e h s = cc
  same_items (folder x inner l) (leaf y link k) path e h s = absurd (leaf_not_folder link (cc))
  same_items (folder x inner l) (folder y other k) path e h s =
      let n : y ≡ x = cc in
      let f : k ≡ l = same_items l k path (cc) h.2 s.2 in
      let at : shows (join path x) (a_folder other) =
      subst (λ z. shows (join path z) (a_folder other)) n s.1 in
      let m = a_folder_at (join path x) h.1.0 in
      let same : a_folder m.0 ≡ a_folder other =
      only_one (join path x) (a_folder m.0) (a_folder other) m.1 at in
      let w : m.0 ≡ other = cc in
      let g : other ≡ inner = same_items inner other (join path x)
      (ap listing (sym w) ∙ m.2 ∙ sym h.1.1) h.1.2 (shows_inner (join path x) other at) in
      cc
  same_items (folder x inner l) (sealed y k) path e h s =
      let n : y ≡ x = cc in
      let at : shows (join path x) a_sealed =
      subst (λ z. shows (join path z) a_sealed) n s.1 in
      let m = a_folder_at (join path x) h.1.0 in
      let same : a_folder m.0 ≡ a_sealed = only_one (join path x) (a_folder m.0) a_sealed m.1 at in cc
  same_items (folder x inner l) (misnamed y kind k) path e h s =
      let n : x ≡ y = cc in absurd (s.0 (subst IsPlain n h.0))
  same_items (folder x inner l) (unread k) path e h s = cc
  same_items (folder x inner l) (not_text k) path e h s = cc
  same_items (sealed x l) k path e h s = absurd h
  same_items (misnamed x kind l) k path e h s = absurd h
  same_items (unread l) k path e h s = absurd h
  same_items (not_text l) k path e h s = absurd h

  pub shows_all : (path : List ℕ) (l : Items) → HoldsAll paths path l → shows path (a_folder l)
  shows_all path l h =
      let m = a_folder_at path h.0 in
      let e : m.0 ≡ l = same_items l m.0 path (m.2 ∙ sym h.1) h.2 (shows_inner path m.0 m.1) in
      subst (λ k. shows path (a_folder k)) e m.1
