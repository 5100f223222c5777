-- What a glob's walk keeps is what is wanted.
use Rattle.std.proofs.Common.{◌≡◌, ℕ, ◌<◌, Bool, true, false, ◌&&◌, cond, List, [], ◌∷◌, ◌++◌, map, refl, sym}
use Rattle.std.proofs.{Common.{ap, length, subst, ◌∙◌, chars}, lemmas.Bool.ltb-true}
use Rattle.std.proofs.lemmas.List.Elements.{filter-append}
use Rattle.std.specs.Prelude.{filter, nat_lt, ⊤}
use Rattle.wax_directory.specs.declared.directory.FileType.{FileType}
use Rattle.wax_directory.specs.declared.directory.FileType.TheVariants.{Folder}
use Rattle.wax_directory.specs.Shown.{Items, end, leaf, folder, sealed, misnamed, unread, not_text, Shown}
use Rattle.wax_directory.specs.Shown.{a_leaf, a_folder, a_sealed, missing, failing, leaf_kind}
use Rattle.wax_token.specs.{Decided.means_test, Spelled.LiteralsHaveNoSlash, Syntax.Tree}
use Rattle.wax_tree.specs.Plain.{WalkScope, Location, one_deeper, plain_entry, unlisted, items_forest}
use Rattle.wax_tree.specs.Plain.{below_forest, plain_at}
use Rattle.wax_walk.specs.{Candidates.Candidate, declared.error.FaultKind.FaultKind}
use Rattle.wax_walk.specs.Forest.{Forest, nothing, item, lists, preorder, followed_by}
use Rattle.wax_walk.specs.Given.{Facts, Given, fault}
use Rattle.wax_exclude.proofs.Descending.{glob_descends, glob_keeps}
use Rattle.wax_exclude.proofs.Filters.{filter_descends, filters_keep}
use Rattle.wax_exclude.proofs.{Names.{at_join, at_sees, names_chars, seen_at}, Passing.passes_at}
use Rattle.wax_exclude.proofs.Stacking.{stacked_entries}
use Rattle.wax_exclude.specs.inner.Descents.{At, child_location}
use Rattle.wax_exclude.specs.{inner.Stacks.{keeps, all_keep, is_left, AllPassDown}, Marks.glob_mark}
use Rattle.wax_exclude.specs.Premises.{ArePlainItems, IsPlainShown}
use Rattle.wax_exclude.specs.Wanted.{Filter, Wanted, is_wanted, is_kept_entry, stacked, filter_mark}
use Rattle.wax_exclude.specs.Wanted.{filter_rules, rules_of}

-- ---- two tests that agree on each item

abbrev pub Agree : (Given → Bool) → (Given → Bool) → Forest Given → Type 0
Agree p q nothing = ⊤
Agree p q (item x below after) = (p x ≡ q x) × Agree p q below × Agree p q after
Agree p q (lists path after) = Agree p q after

module _ (p q : Given → Bool) where
  pub same_filter : (f : Forest Given) → Agree p q f → filter p (preorder f) ≡ filter q (preorder f)
  same_filter nothing h = refl
  same_filter (lists path after) h = same_filter after h
  same_filter (item x below after) h =
      let ys = preorder below ++ preorder after in
      ap (λ b. cond b (x ∷ filter p ys) (filter p ys)) h.0
      ∙ ap (λ ys. cond (q x) (x ∷ ys) ys)
      (filter-append p (preorder below) (preorder after)
      ∙ ap (λ ys. ys ++ filter p (preorder after)) (same_filter below h.1)
      ∙ ap (λ ys. filter q (preorder below) ++ ys) (same_filter after h.2)
      ∙ sym (filter-append q (preorder below) (preorder after)))

  agree_followed : (f g : Forest Given) → Agree p q f → Agree p q g → Agree p q (followed_by f g)
  agree_followed nothing g h k = k
  agree_followed (item x below after) g h k = (h.0, h.1, agree_followed after g h.2 k)
  agree_followed (lists path after) g h k = agree_followed after g h k

  agree_unless : (b : Bool) (x : Given) (below after : Forest Given) → p x ≡ q x → Agree p q below
      → Agree p q after → Agree p q (cond b (followed_by below after) (item x below after))
  agree_unless true x below after e h k = agree_followed below after h k
  agree_unless false x below after e h k = (e, h, k)

  agree_if : (b : Bool) (f : Forest Given) → (b ≡ true → Agree p q f) → Agree p q (cond b f nothing)
  agree_if true f h = h refl
  agree_if false f h = tt

  -- on entries of names that have Good, and on faults; longer names have Good if they don't exceed the
  -- greatest depth
  module _ (rooted : Bool) (scope : WalkScope) (Good : List (List ℕ) → Type 0)
      (good_more : (names : List (List ℕ)) (x : List ℕ) → length names < scope.max → Good names
      → Good (names ++ x ∷ []))
      (of_entries : (at : Location) (kind : FileType) (names : List (List ℕ))
      → At rooted at names → Good names
      → p (plain_entry at kind) ≡ q (plain_entry at kind))
      (of_faults : (kind : FaultKind) (path : List ℕ) (depth : ℕ)
      → p (fault kind path depth) ≡ q (fault kind path depth)) where
    abbrev in_folder : Location → Items → Forest Given
    in_folder at l = items_forest scope (one_deeper at) l

    abbrev low : Location → Bool
    low at = nat_lt at.depth scope.min

    abbrev high : Location → Bool
    high at = nat_lt at.depth scope.max

    above : (at : Location) (names : List (List ℕ)) → At rooted at names → high at ≡ true
        → length names < scope.max
    above at names h e = subst (λ n. n < scope.max) h.depth_is (ltb-true at.depth scope.max e)

    agree_sealed : (b : Bool) (path : List ℕ) (depth : ℕ)
        → Agree p q (cond b (unlisted scope path depth) nothing)
    agree_sealed true path depth = (of_faults _ path depth, tt, tt)
    agree_sealed false path depth = tt

    pub agree_inside : (at : Location) (names : List (List ℕ)) (l : Items)
        → At rooted at names → ArePlainItems l
        → ((x : List ℕ) → Good (names ++ x ∷ [])) → Agree p q (in_folder at l)
    agree_inside at names end h t g = tt
    agree_inside at names (leaf x link rest) h t g =
        let c = child_location at x in
        agree_unless (low c) (plain_entry c (leaf_kind link)) nothing (in_folder at rest)
        (of_entries c (leaf_kind link) (names ++ x ∷ []) (at_join rooted at names x h t.0) (g x)) tt
        (agree_inside at names rest h t.1 g)
    agree_inside at names (folder x inner rest) h t g =
        let a = at_join rooted at names x h t.0 in
        let c = child_location at x in
        agree_unless (low c) (plain_entry c Folder) (below_forest scope c (a_folder inner))
        (in_folder at rest) (of_entries c Folder (names ++ x ∷ []) a (g x))
        (agree_if (high c) (lists c.path (in_folder c inner))
        (λ e. agree_inside c (names ++ x ∷ []) inner a t.1
        (λ y. good_more (names ++ x ∷ []) y (above c (names ++ x ∷ []) a e) (g x))))
        (agree_inside at names rest h t.2 g)
    agree_inside at names (sealed x rest) h t g =
        let c = child_location at x in
        agree_unless (low c) (plain_entry c Folder) (below_forest scope c a_sealed) (in_folder at rest)
        (of_entries c Folder (names ++ x ∷ []) (at_join rooted at names x h t.0) (g x))
        (agree_sealed (high c) c.path c.depth) (agree_inside at names rest h t.1 g)
    agree_inside at names (misnamed x kind rest) h t g =
        (of_faults _ _ _, tt, agree_inside at names rest h t g)
    agree_inside at names (unread rest) h t g = (of_faults _ _ _, tt, agree_inside at names rest h t g)
    agree_inside at names (not_text rest) h t g = (of_faults _ _ _, tt, agree_inside at names rest h t g)

    pub agree_at : (at : Location) (names : List (List ℕ)) (s : Shown) → At rooted at names → IsPlainShown s
        → Good names → Agree p q (plain_at scope at s nothing)
    agree_at at names (a_leaf link) h t g =
        agree_unless (low at) (plain_entry at (leaf_kind link)) nothing nothing
        (of_entries at (leaf_kind link) names h g) tt tt
    agree_at at names (a_folder l) h t g =
        agree_unless (low at) (plain_entry at Folder) (below_forest scope at (a_folder l)) nothing
        (of_entries at Folder names h g)
        (agree_if (high at) (lists at.path (in_folder at l))
        (λ e. agree_inside at names l h t (λ x. good_more names x (above at names h e) g))) tt
    agree_at at names a_sealed h t g =
        agree_unless (low at) (plain_entry at Folder) (below_forest scope at a_sealed) nothing
        (of_entries at Folder names h g) (agree_sealed (high at) at.path at.depth) tt
    agree_at at names missing h t g = (of_faults _ _ _, tt, tt)
    agree_at at names failing h t g = (of_faults _ _ _, tt, tt)

-- ---- what the filters keep

glob_keep : {A : Type 0} (rooted : Bool) (t : Tree A) (at : Location) (names : List (List ℕ))
    → LiteralsHaveNoSlash t
    → At rooted at names
    → keeps (glob_mark rooted t (seen_at at)) ≡ means_test t false false (chars at.candidate)
glob_keep rooted t at names p h =
    let e = at_sees rooted at names h in
    ap (λ c. keeps (glob_mark rooted t c)) e
    ∙ glob_keeps rooted t (map chars names) p (names_chars names h.are_plain)
    ∙ sym (ap (λ (c : Candidate). means_test t false false c.text) e)

module _ {A : Type 0} (w : Wanted A) (scope : WalkScope) where
  pub pass_filters : (at : Location) (names : List (List ℕ)) (s : Shown)
      → At w.rooted at names → IsPlainShown s
      → (filters : List (Filter A)) → AllPassDown (filter_rules filters) (plain_at scope at s nothing)
  pass_filters at names s h x [] = tt
  pass_filters at names s h x (y ∷ filters) = (
    passes_at w.rooted (filter_mark y) (filter_descends w.rooted y) scope at names s h x,
    pass_filters at names s h x filters,
  )

  -- the entries that are kept are those of the whole walk from there that are wanted, in order
  pub walk_wanted : (at : Location) (names : List (List ℕ)) (s : Shown) → LiteralsHaveNoSlash w.glob
      → At w.rooted at names → IsPlainShown s
      → filter is_kept_entry (preorder (stacked (rules_of w) (plain_at scope at s nothing)))
      ≡ filter (is_wanted w) (preorder (plain_at scope at s nothing))
  walk_wanted at names s p h x =
      stacked_entries (rules_of w) (plain_at scope at s nothing) (
        passes_at w.rooted (glob_mark w.rooted w.glob) (glob_descends w.rooted w.glob) scope at names s h x,
        pass_filters at names s h x w.filters,
      )
      ∙ same_filter (is_left (rules_of w)) (is_wanted w) (plain_at scope at s nothing)
      (agree_at (is_left (rules_of w)) (is_wanted w) w.rooted scope (λ ns. ⊤) (λ ns x d g. tt)
      (λ c k ns a g.
      let f : Facts = record {
        path = c.path;
        root = c.root;
        candidate = c.candidate;
        depth = c.depth;
        kind = k;
      } in
      ap (λ b. b && all_keep (filter_rules w.filters) f) (glob_keep w.rooted w.glob c ns p a)
      ∙ ap (λ b. means_test w.glob false false (chars c.candidate) && b) (filters_keep w.filters f))
      (λ k p d. refl) at names s h x tt)
