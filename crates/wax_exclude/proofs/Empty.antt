-- Walks of which nothing is wanted.
use Rattle.std.proofs.Common.{◌≡◌, ℕ, ◌<◌, ◌≤◌, Bool, true, false, ◌⊎◌, cond, List, [], ◌∷◌, ◌++◌, map}
use Rattle.std.proofs.Common.{length, refl, sym, ap, ◌∙◌, arith, append-nil, chars, length-append, inl, inr}
use Rattle.std.proofs.lemmas.Bool.{ltb-true}
use Rattle.std.specs.Prelude.{filter, nat_lt}
use Rattle.wax_directory.specs.declared.directory.FileType.{FileType}
use Rattle.wax_directory.specs.declared.directory.FileType.TheVariants.{Folder}
use Rattle.wax_directory.specs.Shown.{Items, end, leaf, folder, sealed, misnamed, unread, not_text, Shown}
use Rattle.wax_directory.specs.Shown.{a_leaf, a_folder, a_sealed, missing, failing, leaf_kind}
use Rattle.wax_tree.specs.{Begins.{Origin, origin_location, scope_in}, declared.steps.DepthRange.DepthRange}
use Rattle.wax_tree.specs.Plain.{WalkScope, Location, one_deeper, plain_entry, items_forest, below_forest}
use Rattle.wax_tree.specs.{Plain.plain_at, Prefix.ArePlain}
use Rattle.wax_walk.specs.declared.error.FaultKind.{FaultKind}
use Rattle.wax_walk.specs.declared.error.FaultKind.TheVariants.{Listing, NotFound}
use Rattle.wax_walk.specs.{Forest.{Forest, nothing, item, lists, preorder}, Given.{Given, fault}}
use Rattle.wax_exclude.proofs.Headline.{bytes_begin, unmeant, at_start, plain_wanted}
use Rattle.wax_exclude.proofs.{Names.{at_join, names_chars, length_names}, Reaching.{of_unless, of_fault}}
use Rattle.wax_exclude.specs.{Candidates.base, inner.Descents.{At, child_location}}
use Rattle.wax_exclude.specs.Premises.{BeginsWith, BoundsNames, IsUnmeant, ArePlainItems, IsPlainShown}
use Rattle.wax_exclude.specs.{Walked.wanted_entries, Wanted.{Wanted, is_wanted}}

module _ (p : Given → Bool)
    (no_faults : (kind : FaultKind) (path : List ℕ) (depth : ℕ) → p (fault kind path depth) ≡ false)
    (rooted : Bool) (scope : WalkScope)
    (none : (at : Location) (kind : FileType) (names : List (List ℕ)) → At rooted at names
    → at.depth ≤ scope.max
    → p (plain_entry at kind) ≡ false) where
  abbrev of : Forest Given → List Given
  of f = filter p (preorder f)

  abbrev in_folder : Location → Items → Forest Given
  in_folder at l = items_forest scope (one_deeper at) l

  abbrev low : Location → Bool
  low at = nat_lt at.depth scope.min

  if_listed : (at : Location) (f : Forest Given) → (at.depth < scope.max → of f ≡ []) → (b : Bool)
      → nat_lt at.depth scope.max ≡ b → of (cond b (lists at.path f) nothing) ≡ []
  if_listed at f h true e = h (ltb-true at.depth scope.max e)
  if_listed at f h false e = refl

  none_inside : (at : Location) (names : List (List ℕ)) (l : Items)
      → at.depth < scope.max → At rooted at names
      → ArePlainItems l → of (in_folder at l) ≡ []
  none_inside at names end d a t = refl
  none_inside at names (leaf x link rest) d a t =
      let c = child_location at x in
      of_unless p no_faults (low c) (plain_entry c (leaf_kind link)) nothing (in_folder at rest)
      (none c (leaf_kind link) (names ++ x ∷ []) (at_join rooted at names x a t.0) (omega (arith, d)))
      ∙ none_inside at names rest d a t.1
  none_inside at names (folder x inner rest) d a t =
      let h = at_join rooted at names x a t.0 in
      let c = child_location at x in
      of_unless p no_faults (low c) (plain_entry c Folder) (below_forest scope c (a_folder inner))
      (in_folder at rest) (none c Folder (names ++ x ∷ []) h (omega (arith, d)))
      ∙ ap (λ v. v ++ of (in_folder at rest))
      (if_listed c (in_folder c inner) (λ e. none_inside c (names ++ x ∷ []) inner e h t.1)
      (nat_lt c.depth scope.max) refl)
      ∙ none_inside at names rest d a t.2
  none_inside at names (sealed x rest) d a t =
      let c = child_location at x in
      of_unless p no_faults (low c) (plain_entry c Folder) (below_forest scope c a_sealed)
      (in_folder at rest)
      (none c Folder (names ++ x ∷ []) (at_join rooted at names x a t.0) (omega (arith, d)))
      ∙ ap (λ v. v ++ of (in_folder at rest))
      (if_listed c (item (fault Listing c.path c.depth) nothing nothing)
      (λ e. of_fault p no_faults Listing c.path c.depth nothing) (nat_lt c.depth scope.max) refl)
      ∙ none_inside at names rest d a t.1
  none_inside at names (misnamed x kind rest) d a t =
      of_fault p no_faults _ _ _ (in_folder at rest) ∙ none_inside at names rest d a t
  none_inside at names (unread rest) d a t =
      of_fault p no_faults _ _ _ (in_folder at rest) ∙ none_inside at names rest d a t
  none_inside at names (not_text rest) d a t =
      of_fault p no_faults _ _ _ (in_folder at rest) ∙ none_inside at names rest d a t

  none_at : (at : Location) (names : List (List ℕ)) (s : Shown) → at.depth ≤ scope.max → At rooted at names
      → IsPlainShown s → of (plain_at scope at s nothing) ≡ []
  none_at at names (a_leaf link) d a t =
      of_unless p no_faults (low at) (plain_entry at (leaf_kind link)) nothing nothing
      (none at (leaf_kind link) names a d)
  none_at at names (a_folder l) d a t =
      let below = below_forest scope at (a_folder l) in
      of_unless p no_faults (low at) (plain_entry at Folder) below nothing (none at Folder names a d)
      ∙ append-nil (of below)
      ∙ if_listed at (in_folder at l) (λ e. none_inside at names l e a t) (nat_lt at.depth scope.max) refl
  none_at at names a_sealed d a t =
      let below = below_forest scope at a_sealed in
      of_unless p no_faults (low at) (plain_entry at Folder) below nothing (none at Folder names a d)
      ∙ append-nil (of below)
      ∙ if_listed at (item (fault Listing at.path at.depth) nothing nothing)
      (λ e. of_fault p no_faults Listing at.path at.depth nothing) (nat_lt at.depth scope.max) refl
  none_at at names missing d a t = of_fault p no_faults NotFound at.path at.depth nothing
  none_at at names failing d a t = of_fault p no_faults Listing at.path at.depth nothing

module _ {A : Type 0} (w : Wanted A) (asked : DepthRange) (origin : Origin) (s : Shown)
    (plain : IsPlainShown s)
    (start : origin.candidate ≡ base w.rooted) where
  abbrev scope : WalkScope
  scope = scope_in asked

  -- no candidate is meant
  pub none_meant : IsUnmeant w.rooted w.glob → wanted_entries w asked origin s ≡ []
  none_meant n =
      sym (plain_wanted w asked origin s)
      ∙ none_at (is_wanted w) (λ k p d. refl) w.rooted scope
      (λ at kind names a d. unmeant w scope at kind names a
      (λ m. n (map chars names) (names_chars names a.are_plain) m))
      (origin_location origin) [] s (omega arith) (at_start w origin start) plain

  module _ (walked : DepthRange) (greatest : (walked.max ≡ asked.max)
      ⊎ ((walked.max ≤ asked.max) × BoundsNames w.rooted w.glob walked.max))
      (begins : BeginsWith w.rooted w.glob (map chars origin.names)) (named : ArePlain origin.names)
      (few : walked.max < length origin.names) where
    -- an entry in the range asked for has no more names than the origin
    too_few : (at : Location) (names : List (List ℕ)) → At w.rooted at names
        → length origin.names ≤ length names
        → at.depth ≤ asked.max → (walked.max ≡ asked.max)
        ⊎ ((walked.max ≤ asked.max) × BoundsNames w.rooted w.glob walked.max)
        → (BoundsNames w.rooted w.glob walked.max → length names ≤ walked.max) → ⊥
    too_few at names a l d (inl e) bound = omega (arith, few, l, d, e, a.depth_is)
    too_few at names a l d (inr b) bound = let c = bound b.1 in omega (arith, few, l, c)

    -- the origin has more names than the greatest depth
    pub none_in_range : wanted_entries w asked origin s ≡ []
    none_in_range =
        sym (plain_wanted w asked origin s)
        ∙ none_at (is_wanted w) (λ k p d. refl) w.rooted scope
        (λ at kind names a d. unmeant w scope at kind names a
        (λ m.
        let cs = names_chars names a.are_plain in
        let b = begins (map chars names) cs m in
        let e = bytes_begin names origin.names b.0 a.are_plain named b.1 in
        let n : length names ≡ length (origin.names ++ e.0) = ap length e.1 in
        too_few at names a (omega (arith, n, length-append origin.names e.0)) d greatest
        (λ bounds. (let c = bounds (map chars names) cs m in let k = length_names names in
        omega (arith, c, k)))))
        (origin_location origin) [] s (omega arith) (at_start w origin start) plain
