-- A glob's walk yields what is wanted of the whole walk, and lists only folders that it may list.
use Rattle.std.proofs.Common.{◌≡◌, ℕ, ◌≤◌, Bool, false, ◌&&◌, ◌⊎◌, List, [], ◌∷◌, ◌++◌, map, length, refl}
use Rattle.std.proofs.Common.{sym, ap, subst, ◌∙◌, inl, inr, arith, append_assoc, append-nil, chars}
use Rattle.std.proofs.{Common.encode_utf8_all, lemmas.List.Elements.All-nil, lemmas.Str.encodes-chars}
use Rattle.std.specs.{Prelude.{filter, All, true}, Str.IsUtf8}
use Rattle.wax_directory.specs.declared.directory.FileType.{FileType}
use Rattle.wax_directory.specs.Shown.{Shown, a_leaf, a_folder, a_sealed, missing, failing, child_in}
use Rattle.wax_token.specs.{Decided.{means_test, means_tested}, Meaning.Means, Spelled.LiteralsHaveNoSlash}
use Rattle.wax_tree.specs.{Begins.{Origin, origin_location, scope_in}, declared.steps.DepthRange.DepthRange}
use Rattle.wax_tree.specs.{Follows.AreDistinctAlong, Plain.{WalkScope, Location, plain_entry}}
use Rattle.wax_tree.specs.Prefix.{ArePlain, path_from, walk_from}
use Rattle.wax_walk.specs.declared.error.FaultKind.{FaultKind}
use Rattle.wax_walk.specs.declared.error.FaultKind.TheVariants.{NotFound, NotAFolder, Listing}
use Rattle.wax_walk.specs.Forest.{Forest, nothing, item, preorder, listings}
use Rattle.wax_walk.specs.Given.{Facts, Mark, Given, fault}
use Rattle.wax_exclude.proofs.Listing.{walk_lists, origin_end}
use Rattle.wax_exclude.proofs.Names.{at_join, chars_joined, names_chars, length_names}
use Rattle.wax_exclude.proofs.{Reaching.{same_walk, reached, plain_child}, Walked.walk_wanted, Whole.at_whole}
use Rattle.wax_exclude.specs.{Candidates.{base, text_at}, inner.Descents.{At, child_location}}
use Rattle.wax_exclude.specs.Premises.{BoundsNames, CanWalk, IsPlainShown}
use Rattle.wax_exclude.specs.Walked.{MayList, plain_walk, glob_walk, wanted_entries}
use Rattle.wax_exclude.specs.Wanted.{Wanted, none_excludes, is_wanted, is_kept_entry, stacked, rules_of}

chars_same : (x y : List ℕ) → IsUtf8 x → IsUtf8 y → chars x ≡ chars y → x ≡ y
chars_same x y u v e = sym (encodes-chars x u) ∙ ap encode_utf8_all e ∙ encodes-chars y v

-- names that begin with others as characters do so as bytes
pub bytes_begin : (names front rest : List (List ℕ)) → ArePlain names → ArePlain front
    → map chars names ≡ map chars front ++ rest → (more : List (List ℕ)) × (names ≡ front ++ more)
bytes_begin names [] rest h k e = (names, refl)
bytes_begin [] (f ∷ front) rest h k e = cc
bytes_begin (n ∷ names) (f ∷ front) rest h k e =
    let a : chars n ≡ chars f = cc in
    let b : map chars names ≡ map chars front ++ rest = cc in
    let s = bytes_begin names front rest h.1 k.1 b in
    let c = chars_same n f h.0.text k.0.text a in
    (s.0, (λ w. c w ∷ s.1 w))

untrue : (b : Bool) → (b ≡ true → ⊥) → b ≡ false
untrue true n = absurd (n refl)
untrue false n = refl

module _ {A : Type 0} (w : Wanted A) where
  -- an entry that the glob doesn't mean isn't wanted
  pub unmeant : (scope : WalkScope) (at : Location) (kind : FileType) (names : List (List ℕ))
      → At w.rooted at names
      → (Means w.glob false false (text_at w.rooted (map chars names)) → ⊥)
      → is_wanted w (plain_entry at kind) ≡ false
  unmeant scope at kind names a n =
      let s = chars at.candidate in
      ap (λ b. b && none_excludes w.filters s)
      (untrue (means_test w.glob false false s) (λ m. n (subst (λ v. Means w.glob false false v)
      (ap chars a.candidate_is ∙ chars_joined w.rooted names a.are_plain)
      ((means_tested w.glob false false s).0 m))))

  -- what is wanted of a forest
  abbrev of : Forest Given → List Given
  of f = filter (is_wanted w) (preorder f)

  pub stacked_fault : (rules : List (Facts → Mark)) (kind : FaultKind) (path : List ℕ) (depth : ℕ)
      → stacked rules (item (fault kind path depth) nothing nothing)
      ≡ item (fault kind path depth) nothing nothing
  stacked_fault [] kind path depth = refl
  stacked_fault (rule ∷ rules) kind path depth = stacked_fault rules kind path depth

  kept_fault : (kind : FaultKind) (path : List ℕ) (depth : ℕ)
      → filter is_kept_entry (preorder (stacked (rules_of w) (item (fault kind path depth) nothing nothing)))
      ≡ []
  kept_fault kind path depth =
      ap (λ f. filter is_kept_entry (preorder f)) (stacked_fault (rules_of w) kind path depth)

  kept_walk : (scope : WalkScope) → LiteralsHaveNoSlash w.glob → (names : List (List ℕ)) (at : Location)
      (done : List (List ℕ)) (s : Shown) → ArePlain names → At w.rooted at done → IsPlainShown s
      → filter is_kept_entry (preorder (stacked (rules_of w) (walk_from scope at s names nothing)))
      ≡ of (walk_from scope at s names nothing)
  kept_walk scope p [] at done s n a x = walk_wanted w scope at done s p a x
  kept_walk scope p (x ∷ names) at done (a_leaf link) n a s = kept_fault NotAFolder at.path at.depth
  kept_walk scope p (x ∷ names) at done a_sealed n a s =
      kept_fault Listing (child_location at x).path (child_location at x).depth
  kept_walk scope p (x ∷ names) at done missing n a s = kept_fault NotFound at.path at.depth
  kept_walk scope p (x ∷ names) at done failing n a s = kept_fault Listing at.path at.depth
  kept_walk scope p (x ∷ names) at done (a_folder l) n a s =
      kept_walk scope p names (child_location at x) (done ++ x ∷ []) (child_in x l) n.1
      (at_join w.rooted at done x a n.0) (plain_child x l s)

  module _ (range : DepthRange) (origin : Origin) where
    abbrev May : Forest Given → Type 0
    May f = All (MayList w range origin) (listings (stacked (rules_of w) f))

    may_fault : (kind : FaultKind) (path : List ℕ) (depth : ℕ)
        → May (item (fault kind path depth) nothing nothing)
    may_fault kind path depth =
        subst (λ v. All (MayList w range origin) (listings v))
        (sym (stacked_fault (rules_of w) kind path depth))
        (All-nil (MayList w range origin))

    may_walk : (names : List (List ℕ)) (at : Location) (done : List (List ℕ)) (s : Shown) → ArePlain names
        → At w.rooted at done → IsPlainShown s → done ++ names ≡ origin.names
        → path_from at.path names ≡ origin_end w range origin
        → May (walk_from (scope_in range) at s names nothing)
    may_walk [] at done s n a x e f =
        walk_lists w range origin at s f (subst (λ v. At w.rooted at v) (sym (append-nil done) ∙ e) a) x
    may_walk (x ∷ names) at done (a_leaf link) n a s e f = may_fault NotAFolder at.path at.depth
    may_walk (x ∷ names) at done a_sealed n a s e f =
        may_fault Listing (child_location at x).path (child_location at x).depth
    may_walk (x ∷ names) at done missing n a s e f = may_fault NotFound at.path at.depth
    may_walk (x ∷ names) at done failing n a s e f = may_fault Listing at.path at.depth
    may_walk (x ∷ names) at done (a_folder l) n a s e f =
        may_walk names (child_location at x) (done ++ x ∷ []) (child_in x l) n.1
        (at_join w.rooted at done x a n.0)
        (plain_child x l s) (append_assoc done (x ∷ []) names ∙ e) f

  -- what is wanted of the plain walk is what is wanted of the whole walk
  pub plain_wanted : (asked : DepthRange) (origin : Origin) (s : Shown)
      → of (plain_walk asked origin s) ≡ wanted_entries w asked origin s
  plain_wanted asked origin s = at_whole (is_wanted w) (λ k p d. refl) asked (origin_location origin) s
      (omega arith)

  pub at_start : (origin : Origin) → origin.candidate ≡ base w.rooted
      → At w.rooted (origin_location origin) []
  at_start origin e = record {
    candidate_is = e ∙ sym (append-nil (base w.rooted));
    depth_is = refl;
    are_plain = tt;
  }

  module _ (asked walked : DepthRange) (origin : Origin) (can : CanWalk w asked walked origin) where
    abbrev scope_to : ℕ → WalkScope
    scope_to max = record { min = asked.min; max = max }

    -- what lies beside the names of the origin isn't wanted
    beyond : (scope : WalkScope) (at : Location) (kind : FileType) (names : List (List ℕ))
        → At w.rooted at names
        → ((rest : List (List ℕ)) → ¬ (names ≡ origin.names ++ rest))
        → is_wanted w (plain_entry at kind) ≡ false
    beyond scope at kind names a n = unmeant scope at kind names a
        (λ m.
        let b = can.begins (map chars names) (names_chars names a.are_plain) m in
        let d = bytes_begin names origin.names b.0 a.are_plain can.plain b.1 in
        n d.0 d.1)

    to_least : (max : ℕ) (s : Shown)
        → filter is_kept_entry (preorder (stacked (rules_of w)
        (walk_from (scope_in walked) (origin_location origin) s origin.names nothing)))
        ≡ filter is_kept_entry (preorder (stacked (rules_of w)
        (walk_from (scope_to walked.max) (origin_location origin) s origin.names nothing)))
    to_least max s = ap (λ v. filter is_kept_entry (preorder (stacked (rules_of w)
        (walk_from (record { min = v; max = walked.max }) (origin_location origin) s origin.names
        nothing)))) can.least

    to_greatest : (s : Shown) → IsPlainShown s → (walked.max ≡ asked.max)
        ⊎ ((walked.max ≤ asked.max) × BoundsNames w.rooted w.glob walked.max)
        → of (walk_from (scope_to walked.max) (origin_location origin) s origin.names nothing)
        ≡ of (walk_from (scope_to asked.max) (origin_location origin) s origin.names nothing)
    to_greatest s t (inl e) =
        ap (λ v. of (walk_from (scope_to v) (origin_location origin) s origin.names nothing)) e
    to_greatest s t (inr b) =
        same_walk (is_wanted w) (λ k p d. refl) w.rooted asked.min walked.max asked.max b.0
        (λ at k ns h g. unmeant (scope_to asked.max) at k ns h
        (λ m. (let c = b.1 (map chars ns) (names_chars ns h.are_plain) m in
        let e = length_names ns in omega (arith, c, e, g, h.depth_is))))
        origin.names (origin_location origin) [] s can.plain (at_start origin can.candidate) t

    fits_asked : (walked.max ≡ asked.max) ⊎ ((walked.max ≤ asked.max) × BoundsNames w.rooted w.glob
        walked.max)
        → length origin.names ≤ walked.max → length origin.names ≤ asked.max
    fits_asked (inl e) l = omega (arith, e, l)
    fits_asked (inr b) l = let c = b.0 in omega (arith, c, l)

    -- the entries that are kept at last are those of the whole walk that are wanted, in order
    pub gives_wanted : (s : Shown) → IsPlainShown s → AreDistinctAlong origin.names s
        → length origin.names ≤ walked.max
        → filter is_kept_entry (preorder (glob_walk w walked origin s)) ≡ wanted_entries w asked origin s
    gives_wanted s plain distinct l =
        to_least walked.max s
        ∙ kept_walk (scope_to walked.max) can.spelled origin.names (origin_location origin) [] s can.plain
        (at_start origin can.candidate) plain
        ∙ to_greatest s plain can.greatest
        ∙ reached (is_wanted w) (λ k p d. refl) w.rooted (scope_to asked.max) origin.names
        (beyond (scope_to asked.max))
        origin.names (origin_location origin) [] s refl can.plain
        (at_start origin can.candidate) plain distinct
        (fits_asked can.greatest l)
        ∙ plain_wanted asked origin s

    -- the walk lists only folders that it may list
    pub lists_few : (s : Shown) → IsPlainShown s
        → All (MayList w walked origin) (listings (glob_walk w walked origin s))
    lists_few s t =
        may_walk walked origin origin.names (origin_location origin) [] s can.plain
        (at_start origin can.candidate) t refl refl
