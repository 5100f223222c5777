-- A least walk keeps what is wanted of the whole walk.
use Rattle.std.proofs.Common.{◌≡◌, ℕ, ◌<◌, ◌≤◌, Bool, true, false, ◌&&◌, not, ◌⊎◌, List, [], ◌∷◌, ◌++◌, map}
use Rattle.std.proofs.{Common.{Option, length, refl, ap, ◌∙◌, inl, inr, arith, chars}, lemmas.Bool.ltb-true}
use Rattle.std.specs.Prelude.{filter, nat_lt}
use Rattle.wax_directory.specs.declared.directory.FileType.{FileType}
use Rattle.wax_directory.specs.Shown.{Shown, a_leaf, a_folder, a_sealed, missing, failing, child_in}
use Rattle.wax_tree.specs.{Begins.{Origin, origin_location, scope_in}, declared.steps.DepthRange.DepthRange}
use Rattle.wax_tree.specs.{Follows.AreDistinctAlong, Plain.{WalkScope, Location, plain_entry, plain_at}}
use Rattle.wax_tree.specs.{Prefix.{ArePlain, walk_from}, Whole.{is_in, whole_at}}
use Rattle.wax_walk.specs.declared.error.FaultKind.{FaultKind}
use Rattle.wax_walk.specs.declared.error.FaultKind.TheVariants.{NotFound, NotAFolder, Listing}
use Rattle.wax_walk.specs.{Forest.{Forest, nothing, item, preorder}, Given.{Given, entry, fault, no_memory}}
use Rattle.wax_walk.specs.Pruned.{pruned}
use Rattle.wax_exclude.proofs.{Closing.{least_wanted, unwanted_from}, Empty.none_in_range}
use Rattle.wax_exclude.proofs.Headline.{at_start, bytes_begin, stacked_fault}
use Rattle.wax_exclude.proofs.Names.{at_join, names_chars, length_names}
use Rattle.wax_exclude.proofs.{Reaching.{same_walk, reached, plain_child}, Whole.at_whole}
use Rattle.wax_exclude.specs.{inner.Descents.{At, child_location}, Premises.{BoundsNames, IsPlainShown}}
use Rattle.wax_exclude.specs.Pruned.{TestsBelow, opens_where, least_rules, is_wanted_from, least_walk}
use Rattle.wax_exclude.specs.{Pruned.CanWalkLeast, Walked.wanted_entries}
use Rattle.wax_exclude.specs.Wanted.{Wanted, is_wanted, is_kept_entry, stacked}

-- ---- ranges

none_less : (n : ℕ) (b : Bool) → nat_lt n 0 ≡ b → b ≡ false
none_less n true e = absurd (let h = ltb-true n 0 e in omega (arith, h))
none_less n false e = refl

shuffled : (a b c : Bool) → c && (a && b) ≡ (a && c) && b
shuffled true b true = refl
shuffled true b false = refl
shuffled false b true = refl
shuffled false b false = refl

-- the range of all depths down to the greatest
abbrev from_start : DepthRange → DepthRange
from_start range = record range { min = 0 }

module _ {A : Type 0} (w : Wanted A) (asked : DepthRange) where
  -- what is in range from the start on and wanted from the least depth on is in range and wanted
  wanted_in : (x : Given) → is_in (from_start asked) x && is_wanted_from asked.min w x
      ≡ is_in asked x && is_wanted w x
  wanted_in (entry m f) =
      let below = not (nat_lt asked.max f.depth) in
      let deep = not (nat_lt f.depth asked.min) in
      let rest = is_wanted w (entry m f) in
      ap (λ b. (not b && below) && (deep && rest)) (none_less f.depth (nat_lt f.depth 0) refl)
      ∙ shuffled deep rest below
  wanted_in (fault kind path depth) = refl
  wanted_in no_memory = refl

  -- what is wanted of a forest from the least depth on
  abbrev of : Forest Given → List Given
  of f = filter (is_wanted_from asked.min w) (preorder f)

  plain_wanted : (origin : Origin) (s : Shown)
      → of (plain_at (scope_in (from_start asked)) (origin_location origin) s nothing)
      ≡ wanted_entries w asked origin s
  plain_wanted origin s =
      let start : 0 ≤ asked.max = omega arith in
      let same : (λ (x : Given). is_in (from_start asked) x && is_wanted_from asked.min w x)
      ≡ (λ (x : Given). is_in asked x && is_wanted w x) = λ i x. wanted_in x i in
      at_whole (is_wanted_from asked.min w) (λ k p d. refl) (from_start asked) (origin_location origin) s
      start
      ∙ ap (λ p. filter p (whole_at (origin_location origin) s)) same

module _ {A : Type 0} (w : Wanted A) (goes : Option ℕ → List ℕ → Bool)
    (tested : TestsBelow goes w.rooted w.glob)
    (asked walked : DepthRange) (origin : Origin) (can : CanWalkLeast w asked walked origin) where
  abbrev scope_to : ℕ → WalkScope
  scope_to max = record { min = 0; max = max }

  abbrev kept_of : Forest Given → List Given
  kept_of f = filter is_kept_entry (preorder
      (stacked (least_rules asked.min w) (pruned (opens_where goes walked.max) f)))

  kept_fault : (kind : FaultKind) (path : List ℕ) (depth : ℕ)
      → kept_of (item (fault kind path depth) nothing nothing) ≡ []
  kept_fault kind path depth =
      ap (λ f. filter is_kept_entry (preorder f)) (stacked_fault w (least_rules asked.min w) kind path depth)

  kept_walk : (names : List (List ℕ)) (at : Location) (done : List (List ℕ)) (s : Shown)
      → ArePlain names → At w.rooted at done → IsPlainShown s
      → kept_of (walk_from (scope_to walked.max) at s names nothing)
      ≡ of w asked (walk_from (scope_to walked.max) at s names nothing)
  kept_walk [] at done s n a x = least_wanted w goes tested (scope_to walked.max) asked.min at done s a x
  kept_walk (x ∷ names) at done (a_leaf link) n a s = kept_fault NotAFolder at.path at.depth
  kept_walk (x ∷ names) at done a_sealed n a s =
      kept_fault Listing (child_location at x).path (child_location at x).depth
  kept_walk (x ∷ names) at done missing n a s = kept_fault NotFound at.path at.depth
  kept_walk (x ∷ names) at done failing n a s = kept_fault Listing at.path at.depth
  kept_walk (x ∷ names) at done (a_folder l) n a s =
      kept_walk names (child_location at x) (done ++ x ∷ []) (child_in x l) n.1
      (at_join w.rooted at done x a n.0) (plain_child x l s)

  -- what lies beside the names of the origin isn't wanted
  beyond : (scope : WalkScope) (at : Location) (kind : FileType) (names : List (List ℕ))
      → At w.rooted at names
      → ((rest : List (List ℕ)) → ¬ (names ≡ origin.names ++ rest))
      → is_wanted_from asked.min w (plain_entry at kind) ≡ false
  beyond scope at kind names a n = unwanted_from w goes tested scope asked.min at kind names a
      (λ m.
      let b = can.begins (map chars names) (names_chars names a.are_plain) m in
      let d = bytes_begin names origin.names b.0 a.are_plain can.plain b.1 in
      n d.0 d.1)

  to_greatest : (s : Shown) → IsPlainShown s → (walked.max ≡ asked.max)
      ⊎ ((walked.max ≤ asked.max) × BoundsNames w.rooted w.glob walked.max)
      → of w asked (walk_from (scope_to walked.max) (origin_location origin) s origin.names nothing)
      ≡ of w asked (walk_from (scope_to asked.max) (origin_location origin) s origin.names nothing)
  to_greatest s t (inl e) =
      ap (λ v. of w asked (walk_from (scope_to v) (origin_location origin) s origin.names nothing)) e
  to_greatest s t (inr b) =
      same_walk (is_wanted_from asked.min w) (λ k p d. refl) w.rooted 0 walked.max asked.max b.0
      (λ at k ns h g. unwanted_from w goes tested (scope_to asked.max) asked.min at k ns h
      (λ m. (let c = b.1 (map chars ns) (names_chars ns h.are_plain) m in
      let e = length_names ns in omega (arith, c, e, g, h.depth_is))))
      origin.names (origin_location origin) [] s can.plain (at_start w origin can.candidate) t

  fits_asked : (walked.max ≡ asked.max) ⊎ ((walked.max ≤ asked.max) × BoundsNames w.rooted w.glob walked.max)
      → length origin.names ≤ walked.max → length origin.names ≤ asked.max
  fits_asked (inl e) l = omega (arith, e, l)
  fits_asked (inr b) l = let c = b.0 in omega (arith, c, l)

  -- the entries that are kept at last are those of the whole walk that are wanted, in order
  pub gives_least : (s : Shown) → IsPlainShown s → AreDistinctAlong origin.names s
      → length origin.names ≤ walked.max
      → filter is_kept_entry (preorder (least_walk goes asked.min w walked origin s))
      ≡ wanted_entries w asked origin s
  gives_least s plain distinct l =
      let start = at_start w origin can.candidate in
      ap (λ v. kept_of (walk_from (record { min = v; max = walked.max }) (origin_location origin)
      s origin.names nothing)) can.least
      ∙ kept_walk origin.names (origin_location origin) [] s can.plain start plain
      ∙ to_greatest s plain can.greatest
      ∙ reached (is_wanted_from asked.min w) (λ k p d. refl) w.rooted (scope_to asked.max) origin.names
      (beyond (scope_to asked.max)) origin.names (origin_location origin) [] s refl
      can.plain start plain distinct
      (fits_asked can.greatest l)
      ∙ plain_wanted w asked origin s

  -- if the origin has more names than the greatest depth, nothing is wanted
  pub wants_none : (s : Shown) → IsPlainShown s → walked.max < length origin.names
      → wanted_entries w asked origin s ≡ []
  wants_none s plain few =
      none_in_range w asked origin s plain can.candidate walked can.greatest can.begins can.plain few
