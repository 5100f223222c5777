-- Each part of the tokens that can't be made longer is among the components.
use Rattle.std.proofs.Common.{◌≡◌, ◌⊎◌, ℕ, suc, ◌+◌, ◌||◌, Bool, true, false, not, List, [], ◌∷◌, ◌++◌, take}
use Rattle.std.proofs.Common.{refl, sym, ◌∙◌, ap, subst, arith, inl, inr}
use Rattle.std.proofs.lemmas.Bool.{and_parts, false≢true}
use Rattle.std.proofs.lemmas.List.Elements.{Contains-append_left, Contains-append_right, Contains-push}
use Rattle.std.specs.List.{Contains, before_first, list_all, position_or_len}
use Rattle.wax_token.specs.Kinds.{is_boundary, is_separator, is_tree_wildcard}
use Rattle.wax_token.specs.Syntax.{literal, class, separator, one, zero_or_more, tree, Tree, leaf}
use Rattle.wax_token.specs.Syntax.{alternation, concatenation, repetition}
use Rattle.wax_components.specs.Parts.{IsComponent, IsLongest, IsRun, IsTreeAlone, begins_with_boundary}
use Rattle.wax_components.specs.Parts.{begun, components_in, ends_with_boundary}

no_separator : {A : Type 0} (t : Tree A) → is_tree_wildcard t ≡ true → is_separator t ≡ false
no_separator (leaf a (literal insensitive s)) e = refl
no_separator (leaf a (class negated xs)) e = refl
no_separator (leaf a separator) e = absurd (false≢true e)
no_separator (leaf a one) e = refl
no_separator (leaf a (zero_or_more evaluation)) e = refl
no_separator (leaf a (tree rooted)) e = refl
no_separator (alternation a ts) e = refl
no_separator (concatenation a ts) e = refl
no_separator (repetition a t low high) e = refl

no_boundary : (s w : Bool) → not (s || w) ≡ true → (s ≡ false) × (w ≡ false)
no_boundary true w e = absurd (false≢true e)
no_boundary false true e = absurd (false≢true e)
no_boundary false false e = (refl, refl)

module _ {A : Type 0} where
  take_one_more : (n : ℕ) (t : Tree A) (ts : List (Tree A)) → take (1 + n) (t ∷ ts) ≡ t ∷ take n ts
  take_one_more n t ts = let e : 1 + n ≡ suc n = omega arith in ap (λ k. take k (t ∷ ts)) e

  run_before : (run after : List (Tree A)) → list_all (λ t. not (is_boundary t)) run ≡ true
      → begins_with_boundary after ≡ true → before_first is_boundary (run ++ after) ≡ run
  run_before [] [] plain ends = refl
  run_before [] (t ∷ after) plain ends = rw ends refl
  run_before (t ∷ run) after plain ends =
      let parts = and_parts (not (is_boundary t)) (list_all (λ u. not (is_boundary u)) run) plain in
      let kinds = no_boundary (is_separator t) (is_tree_wildcard t) parts.0 in
      let p : ℕ = position_or_len is_boundary (run ++ after) in
      let first : position_or_len is_boundary (t ∷ (run ++ after)) ≡ 1 + p = rw (kinds.0, kinds.1) refl in
      ap (λ k. take k (t ∷ (run ++ after))) first ∙ take_one_more p t (run ++ after)
      ∙ ap (λ us. t ∷ us) (run_before run after parts.1 ends)

  alone : (at_edge : Bool) (t : Tree A) (ts : List (Tree A)) → is_tree_wildcard t ≡ true
      → Contains (components_in at_edge (t ∷ ts)) (t ∷ [])
  alone at_edge t ts e = Contains-append_left (begun at_edge t ts) (components_in (is_boundary t) ts) (t ∷ [])
      (rw (no_separator t e, e) (Contains-push [] (t ∷ [])))

  run_alone : (t : Tree A) (run after : List (Tree A))
      → list_all (λ u. not (is_boundary u)) (t ∷ run) ≡ true → begins_with_boundary after ≡ true
      → Contains (components_in true (t ∷ (run ++ after))) (t ∷ run)
  run_alone t run after plain ends =
      let parts = and_parts (not (is_boundary t)) (list_all (λ u. not (is_boundary u)) run) plain in
      let kinds = no_boundary (is_separator t) (is_tree_wildcard t) parts.0 in
      let is : before_first is_boundary (run ++ after) ≡ run = run_before run after parts.1 ends in
      Contains-append_left (begun true t (run ++ after))
      (components_in (is_boundary t) (run ++ after)) (t ∷ run)
      (rw (kinds.0, kinds.1)
      (subst (λ us. Contains ((t ∷ us) ∷ []) (t ∷ run)) (sym is) (Contains-push [] (t ∷ run))))

  -- tokens before a run, by whether the first token is at an edge
  abbrev EndsAt : Bool → List (Tree A) → Type 0
  EndsAt at_edge [] = at_edge ≡ true
  EndsAt at_edge (t ∷ before) = ends_with_boundary (t ∷ before) ≡ true

  ends_later : (t : Tree A) (before : List (Tree A)) → ends_with_boundary (t ∷ before) ≡ true
      → EndsAt (is_boundary t) before
  ends_later t [] e = e
  ends_later t (u ∷ before) e = e

  longest_later : (t : Tree A) (before part after : List (Tree A)) → IsLongest (t ∷ before) part after
      → IsTreeAlone part ⊎ (IsRun part × EndsAt (is_boundary t) before × (begins_with_boundary after ≡ true))
  longest_later t before part after h = elim h [
    | inl i ↦ inl i
    | inr i ↦ inr (i.0, ends_later t before i.1, i.2)
  ]

  has_run : (part after : List (Tree A)) → IsRun part → begins_with_boundary after ≡ true
      → Contains (components_in true (part ++ after)) part
  has_run [] after run ends = absurd (omega (arith, run.0))
  has_run (t ∷ part) after run ends = run_alone t part after run.1 ends

  has_first : (at_edge : Bool) (part after : List (Tree A))
      → IsTreeAlone part ⊎ (IsRun part × (at_edge ≡ true) × (begins_with_boundary after ≡ true))
      → Contains (components_in at_edge (part ++ after)) part
  has_first at_edge part after (inl i) =
      subst (λ ts. Contains (components_in at_edge (ts ++ after)) ts) (sym i.1) (alone at_edge i.0 after i.2)
  has_first at_edge part after (inr i) =
      subst (λ b. Contains (components_in b (part ++ after)) part) (sym i.1) (has_run part after i.0 i.2)

  has_part : (at_edge : Bool) (before part after : List (Tree A))
      → IsTreeAlone part ⊎ (IsRun part × EndsAt at_edge before × (begins_with_boundary after ≡ true))
      → Contains (components_in at_edge (before ++ (part ++ after))) part
  has_part at_edge [] part after h = has_first at_edge part after h
  has_part at_edge (t ∷ before) part after h =
      Contains-append_right (begun at_edge t (before ++ (part ++ after)))
      (components_in (is_boundary t) (before ++ (part ++ after))) part
      (has_part (is_boundary t) before part after (longest_later t before part after h))

  starts_at_edge : (before : List (Tree A)) → ends_with_boundary before ≡ true → EndsAt true before
  starts_at_edge [] e = refl
  starts_at_edge (t ∷ before) e = e

  pub has_each : (ts part : List (Tree A)) → IsComponent ts part → Contains (components_in true ts) part
  has_each ts part h = subst (λ us. Contains (components_in true us) part) (sym h.2)
      (has_part true h.0 part h.1 (elim h.3 [
        | inl i ↦ inl i
        | inr i ↦ inr (i.0, starts_at_edge h.0 i.1, i.2)
      ]))
