-- Which folders of a walk are listed after filters.
use Rattle.std.proofs.Common.{◌≡◌, ℕ, Bool, true, false, ◌⊎◌, cond, List, [], ◌∷◌, ◌++◌, refl, sym, ap, subst}
use Rattle.std.proofs.Common.{◌∙◌, inl, inr, append_assoc, append-nil, arith}
use Rattle.std.proofs.lemmas.List.Elements.{All-append, All-cons, All-contains, All-contains_itself, All-nil}
use Rattle.std.proofs.lemmas.List.Elements.{All-weaker, Contains-append_left, Contains-append_right}
use Rattle.std.specs.{List.Contains, Prelude.{All, nat_lt, ⊤}}
use Rattle.wax_directory.specs.declared.directory.FileType.{FileType}
use Rattle.wax_directory.specs.declared.directory.FileType.TheVariants.{Folder}
use Rattle.wax_directory.specs.Shown.{Items, end, leaf, folder, sealed, misnamed, unread, not_text, Shown}
use Rattle.wax_directory.specs.Shown.{a_leaf, a_folder, a_sealed, missing, failing, leaf_kind, join, IsPlain}
use Rattle.wax_tree.specs.Plain.{WalkScope, Location, one_deeper, plain_entry, items_forest, plain_at}
use Rattle.wax_tree.specs.{Walking.entry_location, Prefix.{ArePlain, path_from}}
use Rattle.wax_walk.specs.declared.error.FaultKind.TheVariants.{Listing}
use Rattle.wax_walk.specs.Forest.{Forest, nothing, item, lists, listings, followed_by, filtered}
use Rattle.wax_walk.specs.Given.{Facts, Mark, with_tree, Given, entry, fault, no_memory, changed_by, cut_by}
use Rattle.wax_exclude.proofs.{Listing.path_last, Names.at_join, Stacking.cut_left}
use Rattle.wax_exclude.specs.{inner.Descents.{At, child_location}, Premises.{ArePlainItems, IsPlainShown}}
use Rattle.wax_exclude.specs.Wanted.{stacked}

-- ---- each folder listed

-- P holds of each folder listed
abbrev pub Each : (List ℕ → Type 0) → Forest Given → Type 0
Each P nothing = ⊤
Each P (item x below after) = Each P below × Each P after
Each P (lists path after) = P path × Each P after

pub each_more : (P Q : List ℕ → Type 0) → ((path : List ℕ) → P path → Q path) → (f : Forest Given)
    → Each P f → Each Q f
each_more P Q g nothing h = tt
each_more P Q g (item x below after) h = (each_more P Q g below h.0, each_more P Q g after h.1)
each_more P Q g (lists path after) h = (g path h.0, each_more P Q g after h.1)

module _ (P : List ℕ → Type 0) where
  each_followed : (f g : Forest Given) → Each P f → Each P g → Each P (followed_by f g)
  each_followed nothing g h k = k
  each_followed (item x below after) g h k = (h.0, each_followed after g h.1 k)
  each_followed (lists path after) g h k = (h.0, each_followed after g h.1 k)

  each_unless : (b : Bool) (x : Given) (below after : Forest Given) → Each P below → Each P after
      → Each P (cond b (followed_by below after) (item x below after))
  each_unless true x below after h k = each_followed below after h k
  each_unless false x below after h k = (h, k)

  each_if : (b : Bool) (path : List ℕ) (f : Forest Given) → P path → Each P f
      → Each P (cond b (lists path f) nothing)
  each_if true path f p h = (p, h)
  each_if false path f p h = tt

  each_cut : (b : Bool) (f : Forest Given) → Each P f → Each P (cond b nothing f)
  each_cut true f h = tt
  each_cut false f h = h

  pub each_filtered : (change : Given → Given) (cut : Given → Bool) (f : Forest Given) → Each P f
      → Each P (filtered change cut f)
  each_filtered change cut nothing h = tt
  each_filtered change cut (item x below after) h =
      let left = filtered change cut below in
      (each_cut (cut x) left (each_filtered change cut below h.0), each_filtered change cut after h.1)
  each_filtered change cut (lists path after) h = (h.0, each_filtered change cut after h.1)

  pub all_listed : (f : Forest Given) → Each P f → All P (listings f)
  all_listed nothing h = All-nil P
  all_listed (item x below after) h =
      All-append P (listings below) (listings after) (all_listed below h.0) (all_listed after h.1)
  all_listed (lists path after) h = All-cons P path (listings after) h.0 (all_listed after h.1)

-- ---- folders and the entries that they lie below

module _ (Of : Facts → List ℕ → Type 0) where
  -- the path is that of the entry, or lies below it; nothing lies below an error
  abbrev pub OfItem : Given → List ℕ → Type 0
  OfItem (entry m f) path = Of f path
  OfItem x path = ⊥

  -- each folder listed below an item lies there
  abbrev pub Lie : Forest Given → Type 0
  Lie nothing = ⊤
  Lie (item x below after) = Each (OfItem x) below × Lie below × Lie after
  Lie (lists path after) = Lie after

  lie_followed : (f g : Forest Given) → Lie f → Lie g → Lie (followed_by f g)
  lie_followed nothing g h k = k
  lie_followed (item x below after) g h k = (h.0, h.1, lie_followed after g h.2 k)
  lie_followed (lists path after) g h k = lie_followed after g h k

  pub lie_unless : (b : Bool) (x : Given) (below after : Forest Given) → Each (OfItem x) below
      → Lie below → Lie after
      → Lie (cond b (followed_by below after) (item x below after))
  lie_unless true x below after e h k = lie_followed below after h k
  lie_unless false x below after e h k = (e, h, k)

  pub lie_if : (b : Bool) (path : List ℕ) (f : Forest Given) → Lie f → Lie (cond b (lists path f) nothing)
  lie_if true path f h = h
  lie_if false path f h = tt

  lie_cut : (b : Bool) (f : Forest Given) → Lie f → Lie (cond b nothing f)
  lie_cut true f h = tt
  lie_cut false f h = h

  -- a filter that only marks leaves them there
  pub lie_filtered : (change : Given → Given) (cut : Given → Bool)
      → ((x : Given) (path : List ℕ) → OfItem x path → OfItem (change x) path) → (f : Forest Given) → Lie f
      → Lie (filtered change cut f)
  lie_filtered change cut c nothing h = tt
  lie_filtered change cut c (lists path after) h = lie_filtered change cut c after h
  lie_filtered change cut c (item x below after) h =
      let left = filtered change cut below in (
        each_more (OfItem x) (OfItem (change x)) (c x) (cond (cut x) nothing left)
            (each_cut (OfItem x) (cut x) left (each_filtered (OfItem x) change cut below h.0)),
        lie_cut (cut x) left (lie_filtered change cut c below h.1),
        lie_filtered change cut c after h.2,
      )

  still : (rule : Facts → Mark) (x : Given) (path : List ℕ) → OfItem x path → OfItem (changed_by rule x) path
  still rule (entry m f) path h = h
  still rule (fault kind depth at) path h = h
  still rule no_memory path h = h

  pub lie_ruled : (rule : Facts → Mark) (f : Forest Given) → Lie f
      → Lie (filtered (changed_by rule) (cut_by rule) f)
  lie_ruled rule f h = lie_filtered (changed_by rule) (cut_by rule) (still rule) f h

-- ---- a filter

module _ (change : Given → Given) (cut : Given → Bool) (Gone : List ℕ → Type 0) where
  abbrev after_filter : Forest Given → Forest Given
  after_filter f = filtered change cut f

  abbrev pub Stays : List (List ℕ) → List ℕ → Type 0
  Stays paths path = Contains paths path ⊎ Gone path

  -- each folder is still listed, or was lost to the filter
  abbrev pub Stay : Forest Given → Type 0
  Stay f = All (Stays (listings (after_filter f))) (listings f)

  stays_left : (xs ys : List (List ℕ)) (path : List ℕ) → Stays xs path → Stays (xs ++ ys) path
  stays_left xs ys path h = elim h [ inl c ↦ inl (Contains-append_left xs ys path c) | inr g ↦ inr g ]

  stays_right : (xs ys : List (List ℕ)) (path : List ℕ) → Stays ys path → Stays (xs ++ ys) path
  stays_right xs ys path h = elim h [ inl c ↦ inl (Contains-append_right xs ys path c) | inr g ↦ inr g ]

  stay_both : (xs ys now next : List (List ℕ)) → All (Stays now) xs → All (Stays next) ys
      → All (Stays (now ++ next)) (xs ++ ys)
  stay_both xs ys now next h k =
      All-append (Stays (now ++ next)) xs ys
      (All-weaker (Stays now) (Stays (now ++ next)) (stays_left now next) xs h)
      (All-weaker (Stays next) (Stays (now ++ next)) (stays_right now next) ys k)

  stay_item : (below after : Forest Given) (b : Bool) → (b ≡ true → All Gone (listings below)) → Stay below
      → Stay after
      → All (Stays (listings (cond b nothing (after_filter below)) ++ listings (after_filter after)))
      (listings below ++ listings after)
  stay_item below after true g h k =
      stay_both (listings below) (listings after) [] (listings (after_filter after))
      (All-weaker Gone (Stays []) (λ path z. inr z) (listings below) (g refl)) k
  stay_item below after false g h k =
      stay_both (listings below) (listings after) (listings (after_filter below))
      (listings (after_filter after))
      h k

  stay_lists : (path : List ℕ) (f : Forest Given) → Stay f → Stay (lists path f)
  stay_lists path f h =
      let now = listings (after_filter f) in
      All-cons (Stays (path ∷ now)) path (listings f)
      (inl (Contains-append_left (path ∷ []) now path (0, omega arith, refl)))
      (All-weaker (Stays now) (Stays (path ∷ now)) (stays_right (path ∷ []) now) (listings f) h)

  module _ (Of : Facts → List ℕ → Type 0)
      (gone : (m : Mark) (f : Facts) (path : List ℕ) → Of f path → cut (entry m f) ≡ true → Gone path) where
    all_gone : (x : Given) (below : Forest Given) → Each (OfItem Of x) below → cut x ≡ true
        → All Gone (listings below)
    all_gone (entry m f) below h e =
        all_listed Gone below (each_more (Of f) Gone (λ path o. gone m f path o e) below h)
    all_gone (fault kind path depth) below h e =
        all_listed Gone below (each_more (λ path. ⊥) Gone (λ path o. absurd o) below h)
    all_gone no_memory below h e =
        all_listed Gone below (each_more (λ path. ⊥) Gone (λ path o. absurd o) below h)

    -- if what lies below the items that are cut is lost, each folder is still
    -- listed, or was lost to the filter
    pub stay : (f : Forest Given) → Lie Of f → Stay f
    stay nothing h = All-nil (Stays [])
    stay (item x below after) h =
        stay_item below after (cut x) (all_gone x below h.0) (stay below h.1) (stay after h.2)
    stay (lists path after) h = stay_lists path after (stay after h)

-- ---- filters one after another

module _ (Of : Facts → List ℕ → Type 0) (Gone : List ℕ → Type 0) where
  -- what lies below the entries that the rules exclude with everything below them is lost
  abbrev pub AllLose : List (Facts → Mark) → Type 0
  AllLose [] = ⊤
  AllLose (rule ∷ rules) =
      ((f : Facts) (path : List ℕ) → Of f path → rule f ≡ with_tree → Gone path) × AllLose rules

  pub stay_stacked : (rules : List (Facts → Mark)) → AllLose rules → (f : Forest Given) → Lie Of f
      → All (λ path. Contains (listings (stacked rules f)) path ⊎ Gone path) (listings f)
  stay_stacked [] g f h =
      All-weaker (Contains (listings f)) (λ path. Contains (listings f) path ⊎ Gone path)
      (λ path c. inl c) (listings f)
      (All-contains_itself (listings f))
  stay_stacked (rule ∷ rules) g f h =
      let change = changed_by rule in
      let cut = cut_by rule in
      let once = filtered change cut f in
      let Left : List ℕ → Type 0 = λ path. Contains (listings (stacked rules once)) path ⊎ Gone path in
      let rest = stay_stacked rules g.1 once (lie_ruled Of rule f h) in
      All-weaker (λ path. Contains (listings once) path ⊎ Gone path) Left
      (λ path s. elim s [
        | inl c ↦ All-contains Left (listings once) path rest c
        | inr d ↦ inr d
      ]) (listings f)
      (stay change cut Gone Of (λ m e path o i. g.0 e path o (cut_left rule [] (entry m e) i)) f h)

-- ---- the plain walk

module _ (scope : WalkScope) (start : List ℕ) (rooted : Bool) (prefix : List (List ℕ)) where
  -- the path of these names and more
  abbrev pub Under : List (List ℕ) → List ℕ → Type 0
  Under names path = (more : List (List ℕ)) × ArePlain more × (path ≡ path_from start (names ++ more))

  -- the entry has these names after the first ones, and the path is that of them and more
  abbrev pub OfNames : Facts → List ℕ → Type 0
  OfNames f path = (names : List (List ℕ)) × At rooted (entry_location f) (prefix ++ names) × Under names path

  abbrev in_folder : Location → Items → Forest Given
  in_folder at l = items_forest scope (one_deeper at) l

  -- the location is at these names
  record IsAt (at : Location) (names : List (List ℕ)) : Type 0 where
    path_is : at.path ≡ path_from start names
    place : At rooted at (prefix ++ names)

  at_child : (at : Location) (names : List (List ℕ)) (x : List ℕ) → IsAt at names → IsPlain x
      → IsAt (child_location at x) (names ++ x ∷ [])
  at_child at names x a p = record {
    path_is = ap (λ v. join v x) a.path_is ∙ sym (path_last start names x);
    place = subst (λ v. At rooted (child_location at x) v) (append_assoc prefix names (x ∷ []))
        (at_join rooted at (prefix ++ names) x a.place p);
  }

  under_more : (names : List (List ℕ)) (x : List ℕ) → IsPlain x → (path : List ℕ)
      → Under (names ++ x ∷ []) path
      → Under names path
  under_more names x p path (more, plain, e) =
      (x ∷ more, (p, plain), e ∙ ap (path_from start) (append_assoc names (x ∷ []) more))

  under_itself : (at : Location) (names : List (List ℕ)) → IsAt at names → Under names at.path
  under_itself at names a = ([], tt, a.path_is ∙ ap (path_from start) (sym (append-nil names)))

  under_folder : (at : Location) (names : List (List ℕ)) (b : Bool) (inner : Forest Given) → IsAt at names
      → Each (Under names) inner → Each (Under names) (cond b (lists at.path inner) nothing)
  under_folder at names b inner a h = each_if (Under names) b at.path inner (under_itself at names a) h

  under_child : (at : Location) (names : List (List ℕ)) (x : List ℕ) (b c : Bool) (inner rest : Forest Given)
      → IsAt at names → IsPlain x → Each (Under (names ++ x ∷ [])) inner → Each (Under names) rest
      → Each (Under names) (cond b
      (followed_by (cond c (lists (child_location at x).path inner) nothing) rest)
      (item (plain_entry (child_location at x) Folder)
      (cond c (lists (child_location at x).path inner) nothing) rest))
  under_child at names x b c inner rest a p h k =
      let child = child_location at x in
      let below = cond c (lists child.path inner) nothing in
      each_unless (Under names) b (plain_entry child Folder) below rest
      (each_more (Under (names ++ x ∷ [])) (Under names) (under_more names x p) below
      (under_folder child (names ++ x ∷ []) c inner (at_child at names x a p) h)) k

  under_items : (at : Location) (names : List (List ℕ)) (l : Items) → IsAt at names → ArePlainItems l
      → Each (Under names) (in_folder at l)
  under_items at names end a t = tt
  under_items at names (leaf x link rest) a t =
      let c = child_location at x in
      each_unless (Under names) (nat_lt c.depth scope.min) (plain_entry c (leaf_kind link)) nothing
      (in_folder at rest) tt (under_items at names rest a t.1)
  under_items at names (folder x inner rest) a t =
      let c = child_location at x in
      under_child at names x (nat_lt c.depth scope.min) (nat_lt c.depth scope.max) (in_folder c inner)
      (in_folder at rest) a t.0 (under_items c (names ++ x ∷ []) inner (at_child at names x a t.0) t.1)
      (under_items at names rest a t.2)
  under_items at names (sealed x rest) a t =
      let c = child_location at x in
      under_child at names x (nat_lt c.depth scope.min) (nat_lt c.depth scope.max)
      (item (fault Listing c.path c.depth) nothing nothing) (in_folder at rest) a t.0 (tt, tt)
      (under_items at names rest a t.1)
  under_items at names (misnamed x kind rest) a t = (tt, under_items at names rest a t)
  under_items at names (unread rest) a t = (tt, under_items at names rest a t)
  under_items at names (not_text rest) a t = (tt, under_items at names rest a t)

  abbrev Lies : Forest Given → Type 0
  Lies f = Lie OfNames f

  lie_folder : (at : Location) (names : List (List ℕ)) (b c : Bool) (inner rest : Forest Given)
      → IsAt at names
      → Each (Under names) inner → Lies inner → Lies rest
      → Lies (cond b (followed_by (cond c (lists at.path inner) nothing) rest)
      (item (plain_entry at Folder) (cond c (lists at.path inner) nothing) rest))
  lie_folder at names b c inner rest a e h k =
      let below = cond c (lists at.path inner) nothing in
      lie_unless OfNames b (plain_entry at Folder) below rest
      (each_more (Under names) (OfItem OfNames (plain_entry at Folder)) (λ path u. (names, a.place, u)) below
      (under_folder at names c inner a e)) (lie_if OfNames c at.path inner h) k

  lie_leaf : (at : Location) (kind : FileType) (b : Bool) (rest : Forest Given) → Lies rest
      → Lies (cond b (followed_by nothing rest) (item (plain_entry at kind) nothing rest))
  lie_leaf at kind b rest k = lie_unless OfNames b (plain_entry at kind) nothing rest tt tt k

  lie_inside : (at : Location) (names : List (List ℕ)) (l : Items) → IsAt at names → ArePlainItems l
      → Lies (in_folder at l)
  lie_inside at names end a t = tt
  lie_inside at names (leaf x link rest) a t =
      let c = child_location at x in
      lie_leaf c (leaf_kind link) (nat_lt c.depth scope.min) (in_folder at rest)
      (lie_inside at names rest a t.1)
  lie_inside at names (folder x inner rest) a t =
      let c = child_location at x in
      let h = at_child at names x a t.0 in
      lie_folder c (names ++ x ∷ []) (nat_lt c.depth scope.min) (nat_lt c.depth scope.max) (in_folder c inner)
      (in_folder at rest) h (under_items c (names ++ x ∷ []) inner h t.1)
      (lie_inside c (names ++ x ∷ []) inner h t.1)
      (lie_inside at names rest a t.2)
  lie_inside at names (sealed x rest) a t =
      let c = child_location at x in
      lie_folder c (names ++ x ∷ []) (nat_lt c.depth scope.min) (nat_lt c.depth scope.max)
      (item (fault Listing c.path c.depth) nothing nothing) (in_folder at rest)
      (at_child at names x a t.0) (tt, tt)
      (tt, tt, tt) (lie_inside at names rest a t.1)
  lie_inside at names (misnamed x kind rest) a t = (tt, tt, lie_inside at names rest a t)
  lie_inside at names (unread rest) a t = (tt, tt, lie_inside at names rest a t)
  lie_inside at names (not_text rest) a t = (tt, tt, lie_inside at names rest a t)

  -- each folder of a plain walk lies below the entries with the names that lead to it
  pub lie_at : (at : Location) (s : Shown) → at.path ≡ start → At rooted at prefix → IsPlainShown s
      → Lies (plain_at scope at s nothing)
  lie_at at (a_leaf link) e a t = lie_leaf at (leaf_kind link) (nat_lt at.depth scope.min) nothing tt
  lie_at at (a_folder l) e a t =
      let h : IsAt at [] =
      record { path_is = e; place = subst (λ v. At rooted at v) (sym (append-nil prefix)) a } in
      lie_folder at [] (nat_lt at.depth scope.min) (nat_lt at.depth scope.max) (in_folder at l) nothing h
      (under_items at [] l h t) (lie_inside at [] l h t) tt
  lie_at at a_sealed e a t =
      let h : IsAt at [] =
      record { path_is = e; place = subst (λ v. At rooted at v) (sym (append-nil prefix)) a } in
      lie_folder at [] (nat_lt at.depth scope.min) (nat_lt at.depth scope.max)
      (item (fault Listing at.path at.depth) nothing nothing) nothing h (tt, tt) (tt, tt, tt) tt
  lie_at at missing e a t = (tt, tt, tt)
  lie_at at failing e a t = (tt, tt, tt)
