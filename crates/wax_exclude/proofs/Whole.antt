-- What is wanted of the plain walk in a range is what is wanted of the whole walk, in range.
use Rattle.std.proofs.Common.{◌≡◌, ℕ, ◌+◌, ◌<◌, ◌≤◌, Bool, true, false, ◌&&◌, not, cond, List, [], ◌∷◌, ◌++◌}
use Rattle.std.proofs.Common.{refl, sym, ap, ◌∙◌, inl, inr, arith, append-nil}
use Rattle.std.proofs.{lemmas.Bool.{ltb-true, lt-ltb, cases_lt}, lemmas.List.Elements.filter-append}
use Rattle.std.specs.Prelude.{filter, nat_lt}
use Rattle.wax_directory.specs.declared.directory.FileType.{FileType}
use Rattle.wax_directory.specs.declared.directory.FileType.TheVariants.{Folder}
use Rattle.wax_directory.specs.Shown.{Items, end, leaf, folder, sealed, misnamed, unread, not_text, Shown}
use Rattle.wax_directory.specs.Shown.{a_leaf, a_folder, a_sealed, missing, failing, leaf_kind}
use Rattle.wax_tree.specs.{Begins.scope_in, declared.steps.DepthRange.DepthRange}
use Rattle.wax_tree.specs.Plain.{WalkScope, Location, item_location, one_deeper, items_forest, below_forest}
use Rattle.wax_tree.specs.{Plain.{unlisted, plain_entry, plain_at}, Whole.{whole_items, whole_at, is_in}}
use Rattle.wax_walk.specs.{declared.error.FaultKind.FaultKind, declared.error.FaultKind.TheVariants.Listing}
use Rattle.wax_walk.specs.{Forest.{Forest, nothing, item, lists, followed_by, preorder}, Given.{Given, fault}}
use Rattle.wax_exclude.proofs.Reaching.{of_followed, of_item, of_fault}

past : (b r : Bool) → (b && false && r) ≡ false
past true r = refl
past false r = refl

within : (b c r : Bool) → c ≡ false → (b && not c && r) ≡ (b && r)
within true c r e = ap (λ v. not v && r) e
within false c r e = refl

not_past : (b : Bool) → (b ≡ true → ⊥) → b ≡ false
not_past true n = absurd (n refl)
not_past false n = refl

module _ (p : Given → Bool)
    (no_faults : (kind : FaultKind) (path : List ℕ) (depth : ℕ) → p (fault kind path depth) ≡ false)
    (range : DepthRange) where
  abbrev scope : WalkScope
  scope = scope_in range

  abbrev in_range : Given → Bool
  in_range x = is_in range x && p x

  abbrev of : Forest Given → List Given
  of f = filter p (preorder f)

  abbrev of_whole : List Given → List Given
  of_whole xs = filter in_range xs

  abbrev low : Location → Bool
  low at = nat_lt at.depth range.min

  abbrev high : Location → Bool
  high at = nat_lt range.max at.depth

  -- an entry is dropped if it is above the least depth, and what is below it stays
  of_low : (b : Bool) (x : Given) (below after : Forest Given)
      → of (cond b (followed_by below after) (item x below after))
      ≡ cond (not b && p x) (x ∷ (of below ++ of after)) (of below ++ of after)
  of_low true x below after = of_followed p no_faults below after
  of_low false x below after = of_item p no_faults x below after

  test_within : (at : Location) (kind : FileType) → at.depth ≤ range.max
      → in_range (plain_entry at kind) ≡ (not (low at) && p (plain_entry at kind))
  test_within at kind h =
      within (not (low at)) (high at) (p (plain_entry at kind))
      (not_past (high at) (λ e. (let l = ltb-true range.max at.depth e in omega (arith, l, h))))

  test_past : (at : Location) (kind : FileType) → range.max < at.depth
      → in_range (plain_entry at kind) ≡ false
  test_past at kind h =
      ap (λ b. not (low at) && not b && p (plain_entry at kind)) (lt-ltb range.max at.depth h)
      ∙ past (not (low at)) (p (plain_entry at kind))

  -- an entry and what follows it
  kept_within : (at : Location) (kind : FileType) (below after : Forest Given) (xs ys : List Given)
      → at.depth ≤ range.max → of below ≡ of_whole xs → of after ≡ of_whole ys
      → of (cond (low at) (followed_by below after) (item (plain_entry at kind) below after))
      ≡ of_whole (plain_entry at kind ∷ (xs ++ ys))
  kept_within at kind below after xs ys h e f =
      let x = plain_entry at kind in
      of_low (low at) x below after
      ∙ ap (λ b. cond b (x ∷ (of below ++ of after)) (of below ++ of after)) (sym (test_within at kind h))
      ∙ ap (λ zs. cond (in_range x) (x ∷ (zs ++ of after)) (zs ++ of after)) e
      ∙ ap (λ zs. cond (in_range x) (x ∷ (of_whole xs ++ zs)) (of_whole xs ++ zs)) f
      ∙ ap (λ zs. cond (in_range x) (x ∷ zs) zs) (sym (filter-append in_range xs ys))

  left_past : (at : Location) (kind : FileType) (xs : List Given) → range.max < at.depth → of_whole xs ≡ []
      → of_whole (plain_entry at kind ∷ xs) ≡ []
  left_past at kind xs h e =
      ap (λ b. cond b (plain_entry at kind ∷ of_whole xs) (of_whole xs)) (test_past at kind h) ∙ e

  -- nothing below the greatest depth is in range
  none_deeper : (at : Location) (l : Items) → range.max < at.depth → of_whole (whole_items at l) ≡ []
  none_deeper at end h = refl
  none_deeper at (leaf x link rest) h =
      left_past (item_location at x) (leaf_kind link) (whole_items at rest) h (none_deeper at rest h)
  none_deeper at (folder x inner rest) h =
      let deep = one_deeper (item_location at x) in
      let below = whole_items deep inner in
      left_past (item_location at x) Folder (below ++ whole_items at rest) h
      (filter-append in_range below (whole_items at rest)
      ∙ ap (λ zs. zs ++ of_whole (whole_items at rest)) (none_deeper deep inner (omega (arith, h)))
      ∙ none_deeper at rest h)
  none_deeper at (sealed x rest) h =
      left_past (item_location at x) Folder (fault Listing (item_location at x).path at.depth ∷ whole_items at
      rest) h
      (none_deeper at rest h)
  none_deeper at (misnamed x kind rest) h = none_deeper at rest h
  none_deeper at (unread rest) h = none_deeper at rest h
  none_deeper at (not_text rest) h = none_deeper at rest h

  below_whole : (at : Location) (l : Items)
      → (at.depth + 1 ≤ range.max
      → of (items_forest scope (one_deeper at) l) ≡ of_whole (whole_items (one_deeper at) l))
      → (b : Bool) → nat_lt at.depth range.max ≡ b
      → of (cond b (lists at.path (items_forest scope (one_deeper at) l)) nothing)
      ≡ of_whole (whole_items (one_deeper at) l)
  below_whole at l f true e = f (let h = ltb-true at.depth range.max e in omega (arith, h))
  below_whole at l f false e = elim (cases_lt at.depth range.max) [
    | inl h ↦ absurd (let w : true ≡ false = sym (lt-ltb at.depth range.max h) ∙ e in cc)
    | inr h ↦ sym (none_deeper (one_deeper at) l (omega (arith, h)))
  ]

  below_sealed : (b : Bool) (path : List ℕ) (depth : ℕ)
      → of (cond b (unlisted scope path depth) nothing) ≡ of_whole (fault Listing path depth ∷ [])
  below_sealed true path depth = of_fault p no_faults Listing path depth nothing
  below_sealed false path depth = refl

  items_whole : (at : Location) (l : Items) → at.depth ≤ range.max
      → of (items_forest scope at l) ≡ of_whole (whole_items at l)
  items_whole at end h = refl
  items_whole at (leaf x link rest) h =
      kept_within (item_location at x) (leaf_kind link) nothing (items_forest scope at rest) []
      (whole_items at rest) h refl (items_whole at rest h)
  items_whole at (folder x inner rest) h =
      let c = item_location at x in
      kept_within c Folder (below_forest scope c (a_folder inner)) (items_forest scope at rest)
      (whole_items (one_deeper c) inner) (whole_items at rest) h
      (below_whole c inner (λ d. items_whole (one_deeper c) inner d) (nat_lt c.depth range.max) refl)
      (items_whole at rest h)
  items_whole at (sealed x rest) h =
      let c = item_location at x in
      kept_within c Folder (below_forest scope c a_sealed) (items_forest scope at rest)
      (fault Listing c.path c.depth ∷ []) (whole_items at rest) h
      (below_sealed (nat_lt c.depth range.max) c.path c.depth) (items_whole at rest h)
  items_whole at (misnamed x kind rest) h =
      of_fault p no_faults _ _ _ (items_forest scope at rest) ∙ items_whole at rest h
  items_whole at (unread rest) h =
      of_fault p no_faults _ _ _ (items_forest scope at rest) ∙ items_whole at rest h
  items_whole at (not_text rest) h =
      of_fault p no_faults _ _ _ (items_forest scope at rest) ∙ items_whole at rest h

  pub at_whole : (at : Location) (s : Shown) → at.depth ≤ range.max
      → of (plain_at scope at s nothing) ≡ of_whole (whole_at at s)
  at_whole at (a_leaf link) h = kept_within at (leaf_kind link) nothing nothing [] [] h refl refl
  at_whole at (a_folder l) h =
      let below = whole_items (one_deeper at) l in
      kept_within at Folder (below_forest scope at (a_folder l)) nothing below [] h
      (below_whole at l (λ d. items_whole (one_deeper at) l d) (nat_lt at.depth range.max) refl) refl
      ∙ ap (λ xs. of_whole (plain_entry at Folder ∷ xs)) (append-nil below)
  at_whole at a_sealed h =
      kept_within at Folder (below_forest scope at a_sealed) nothing (fault Listing at.path at.depth ∷ []) []
      h
      (below_sealed (nat_lt at.depth range.max) at.path at.depth) refl
  at_whole at missing h = of_fault p no_faults _ _ _ nothing
  at_whole at failing h = of_fault p no_faults _ _ _ nothing
