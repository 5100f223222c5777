-- A rule that descends passes down a plain walk.
use Rattle.std.proofs.Common.{◌≡◌, ℕ, Bool, true, false, cond, List, [], ◌∷◌, ◌++◌, map, refl, sym, ap, subst}
use Rattle.std.proofs.Common.{◌∙◌, append_assoc, append-nil, chars}
use Rattle.std.specs.Prelude.{nat_lt}
use Rattle.wax_directory.specs.declared.directory.FileType.TheVariants.{Folder}
use Rattle.wax_directory.specs.Shown.{Items, end, leaf, folder, sealed, misnamed, unread, not_text, Shown}
use Rattle.wax_directory.specs.Shown.{a_leaf, a_folder, a_sealed, missing, failing, leaf_kind, IsPlain}
use Rattle.wax_tree.specs.Plain.{WalkScope, Location, one_deeper, plain_entry, unlisted, items_forest}
use Rattle.wax_tree.specs.Plain.{below_forest, plain_at}
use Rattle.wax_walk.specs.Candidates.{Candidate, of_candidate}
use Rattle.wax_walk.specs.Forest.{Forest, nothing, item, lists, followed_by}
use Rattle.wax_walk.specs.Given.{Facts, Mark, with_tree, Given}
use Rattle.wax_exclude.proofs.Names.{at_join, at_sees, names_chars, seen_at}
use Rattle.wax_query.specs.Below.{AreNames}
use Rattle.wax_exclude.specs.inner.Descents.{said_of, Descends, At, child_location}
use Rattle.wax_exclude.specs.inner.Stacks.{LeavesOutWhole, LeavesOutAll, IsEntryLeftOut, PassesDown}
use Rattle.wax_exclude.specs.Premises.{ArePlainItems, IsPlainShown}

map-append : (xs ys : List (List ℕ)) → map chars (xs ++ ys) ≡ map chars xs ++ map chars ys
map-append [] ys = refl
map-append (x ∷ xs) ys = ap (λ v. chars x ∷ v) (map-append xs ys)

module _ (rule : Facts → Mark) where
  left_followed : (f g : Forest Given) → LeavesOutAll rule f → LeavesOutAll rule g
      → LeavesOutAll rule (followed_by f g)
  left_followed nothing g h k = k
  left_followed (item x below after) g h k = (h.0, h.1, left_followed after g h.2 k)
  left_followed (lists path after) g h k = left_followed after g h k

  left_unless : (b : Bool) (x : Given) (below after : Forest Given) → LeavesOutWhole rule x
      → LeavesOutAll rule below
      → LeavesOutAll rule after → LeavesOutAll rule (cond b (followed_by below after) (item x below after))
  left_unless true x below after e h k = left_followed below after h k
  left_unless false x below after e h k = (e, h, k)

  passes_followed : (f g : Forest Given) → PassesDown rule f → PassesDown rule g
      → PassesDown rule (followed_by f g)
  passes_followed nothing g h k = k
  passes_followed (item x below after) g h k = (h.0, h.1, passes_followed after g h.2 k)
  passes_followed (lists path after) g h k = passes_followed after g h k

  passes_unless : (b : Bool) (x : Given) (below after : Forest Given)
      → (IsEntryLeftOut rule x → LeavesOutAll rule below) → PassesDown rule below → PassesDown rule after
      → PassesDown rule (cond b (followed_by below after) (item x below after))
  passes_unless true x below after e h k = passes_followed below after h k
  passes_unless false x below after e h k = (e, h, k)

  left_listed : (b : Bool) (path : List ℕ) (f : Forest Given) → LeavesOutAll rule f
      → LeavesOutAll rule (cond b (lists path f) nothing)
  left_listed true path f h = h
  left_listed false path f h = tt

  passes_listed : (b : Bool) (path : List ℕ) (f : Forest Given) → PassesDown rule f
      → PassesDown rule (cond b (lists path f) nothing)
  passes_listed true path f h = h
  passes_listed false path f h = tt

  left_sealed : (scope : WalkScope) (b : Bool) (path : List ℕ) (depth : ℕ)
      → LeavesOutAll rule (cond b (unlisted scope path depth) nothing)
  left_sealed scope true path depth = (tt, tt, tt)
  left_sealed scope false path depth = tt

  passes_sealed : (scope : WalkScope) (b : Bool) (path : List ℕ) (depth : ℕ)
      → PassesDown rule (cond b (unlisted scope path depth) nothing)
  passes_sealed scope true path depth = ((λ e. tt), tt, tt)
  passes_sealed scope false path depth = tt

module _ (rooted : Bool) (mark : Candidate → Mark) (descends : Descends rooted mark) (scope : WalkScope) where
  abbrev rule : Facts → Mark
  rule = of_candidate mark

  abbrev in_folder : Location → Items → Forest Given
  in_folder at l = items_forest scope (one_deeper at) l

  abbrev low : Location → Bool
  low at = nat_lt at.depth scope.min

  abbrev high : Location → Bool
  high at = nat_lt at.depth scope.max

  -- what is said of these names
  abbrev says : List (List ℕ) → Mark
  says names = said_of rooted mark (map chars names)

  left_below : (at : Location) (names others : List (List ℕ)) → At rooted at (names ++ others)
      → says names ≡ with_tree → mark (seen_at at) ≡ with_tree
  left_below at names others h e =
      let m = map-append names others in
      ap mark (at_sees rooted at (names ++ others) h) ∙ ap (said_of rooted mark) m
      ∙ descends (map chars names) (map chars others)
      (subst AreNames m (names_chars (names ++ others) h.are_plain)) e

  at_below : (at : Location) (names others : List (List ℕ)) (x : List ℕ) → At rooted at (names ++ others)
      → IsPlain x
      → At rooted (child_location at x) (names ++ (others ++ x ∷ []))
  at_below at names others x h p = subst (λ v. At rooted (child_location at x) v)
      (append_assoc names others (x ∷ []))
      (at_join rooted at (names ++ others) x h p)

  -- all that is in a folder below these names, and below those others
  left_inside : (at : Location) (names others : List (List ℕ)) (l : Items) → At rooted at (names ++ others)
      → ArePlainItems l → says names ≡ with_tree → LeavesOutAll rule (in_folder at l)
  left_inside at names others end h t e = tt
  left_inside at names others (leaf x link rest) h t e =
      let a = at_below at names others x h t.0 in
      left_unless rule (low (child_location at x))
      (plain_entry (child_location at x) (leaf_kind link)) nothing
      (in_folder at rest) (left_below (child_location at x) names (others ++ x ∷ []) a e) tt
      (left_inside at names others rest h t.1 e)
  left_inside at names others (folder x inner rest) h t e =
      let a = at_below at names others x h t.0 in
      let c = child_location at x in
      left_unless rule (low c) (plain_entry c Folder) (below_forest scope c (a_folder inner))
      (in_folder at rest) (left_below c names (others ++ x ∷ []) a e)
      (left_listed rule (high c) c.path (in_folder c inner)
      (left_inside c names (others ++ x ∷ []) inner a t.1 e))
      (left_inside at names others rest h t.2 e)
  left_inside at names others (sealed x rest) h t e =
      let a = at_below at names others x h t.0 in
      let c = child_location at x in
      left_unless rule (low c) (plain_entry c Folder) (below_forest scope c a_sealed)
      (in_folder at rest)
      (left_below c names (others ++ x ∷ []) a e) (left_sealed rule scope (high c) c.path c.depth)
      (left_inside at names others rest h t.1 e)
  left_inside at names others (misnamed x kind rest) h t e = (tt, tt, left_inside at names others rest h t e)
  left_inside at names others (unread rest) h t e = (tt, tt, left_inside at names others rest h t e)
  left_inside at names others (not_text rest) h t e = (tt, tt, left_inside at names others rest h t e)

  left_within : (at : Location) (names : List (List ℕ)) (l : Items) → At rooted at names → ArePlainItems l
      → mark (seen_at at) ≡ with_tree → LeavesOutAll rule (in_folder at l)
  left_within at names l h t e =
      left_inside at names [] l (subst (λ v. At rooted at v) (sym (append-nil names)) h) t
      (sym (ap mark (at_sees rooted at names h)) ∙ e)

  passes_inside : (at : Location) (names : List (List ℕ)) (l : Items) → At rooted at names → ArePlainItems l
      → PassesDown rule (in_folder at l)
  passes_inside at names end h t = tt
  passes_inside at names (leaf x link rest) h t =
      passes_unless rule (low (child_location at x)) (plain_entry (child_location at x) (leaf_kind link))
      nothing
      (in_folder at rest) (λ e. tt) tt (passes_inside at names rest h t.1)
  passes_inside at names (folder x inner rest) h t =
      let a = at_join rooted at names x h t.0 in
      let c = child_location at x in
      passes_unless rule (low c) (plain_entry c Folder) (below_forest scope c (a_folder inner))
      (in_folder at rest)
      (λ e. left_listed rule (high c) c.path (in_folder c inner)
      (left_within c (names ++ x ∷ []) inner a t.1 e))
      (passes_listed rule (high c) c.path (in_folder c inner) (passes_inside c (names ++ x ∷ []) inner a t.1))
      (passes_inside at names rest h t.2)
  passes_inside at names (sealed x rest) h t =
      let c = child_location at x in
      passes_unless rule (low c) (plain_entry c Folder) (below_forest scope c a_sealed)
      (in_folder at rest)
      (λ e. left_sealed rule scope (high c) c.path c.depth) (passes_sealed rule scope (high c) c.path c.depth)
      (passes_inside at names rest h t.1)
  passes_inside at names (misnamed x kind rest) h t = ((λ e. tt), tt, passes_inside at names rest h t)
  passes_inside at names (unread rest) h t = ((λ e. tt), tt, passes_inside at names rest h t)
  passes_inside at names (not_text rest) h t = ((λ e. tt), tt, passes_inside at names rest h t)

  -- the walk from a location on
  pub passes_at : (at : Location) (names : List (List ℕ)) (s : Shown) → At rooted at names → IsPlainShown s
      → PassesDown rule (plain_at scope at s nothing)
  passes_at at names (a_leaf link) h t =
      passes_unless rule (low at) (plain_entry at (leaf_kind link)) nothing nothing (λ e. tt) tt tt
  passes_at at names (a_folder l) h t =
      passes_unless rule (low at) (plain_entry at Folder) (below_forest scope at (a_folder l)) nothing
      (λ e. left_listed rule (high at) at.path (in_folder at l) (left_within at names l h t e))
      (passes_listed rule (high at) at.path (in_folder at l) (passes_inside at names l h t)) tt
  passes_at at names a_sealed h t =
      passes_unless rule (low at) (plain_entry at Folder) (below_forest scope at a_sealed) nothing
      (λ e. left_sealed rule scope (high at) at.path at.depth)
      (passes_sealed rule scope (high at) at.path at.depth) tt
  passes_at at names missing h t = ((λ e. tt), tt, tt)
  passes_at at names failing h t = ((λ e. tt), tt, tt)
