-- An invariant text is not empty, and where it ends with `/` its token ends in a boundary.
use Rattle.std.proofs.Common.{List, [], ap, append-nil, false, refl, subst, suc, sym, true, zero, ℕ, ◌++◌}
use Rattle.std.proofs.Common.{◌∙◌, ◌∷◌, ◌≡◌, ◌≢◌}
use Rattle.std.specs.List.{list_any}
use Rattle.wax_query.specs.Components.{EndsWithSlash}
use Rattle.wax_token.specs.Reads.{is_one_of}
use Rattle.wax_token.specs.Syntax.{Leaf, Tree, Trees, alternation, class, concatenation, leaf, literal, more}
use Rattle.wax_token.specs.Syntax.{none, one, repetition, separator, tree, zero_or_more}
use Rattle.wax_token.specs.Kinds.{is_boundary_leaf}
use Rattle.wax_facts.specs.{Rules.are_incompatible, Situated.{ends_in, last_ends_in}}
use Rattle.wax_facts.specs.InvariantText.{LeafText, Text, TextOfEach, times}
use Rattle.wax_facts.specs.Orderly.{Apart, ApartEach, Full, FullEach, IsSome, Worded, WordedEach, WordedLeaf}
use Rattle.wax_facts.proofs.{Endings.{ends_back, nil_ends, one_ends}, Lists.{cons_nil, nil_left}}
use Rattle.wax_facts.proofs.Truths.{or_right, true_false, true_or}

word_ends : (t u : List ℕ) → t ≡ u ++ 47 ∷ [] → list_any (is_one_of (47 ∷ 92 ∷ [])) t ≡ false → ⊥
word_ends t u e f = in_it u (ap (list_any (is_one_of (47 ∷ 92 ∷ []))) (sym e) ∙ f)
  where
    in_it : (u : List ℕ) → list_any (is_one_of (47 ∷ 92 ∷ [])) (u ++ 47 ∷ []) ≡ false → ⊥
    in_it [] g = true_false g
    in_it (c ∷ u) g =
        in_it u (or_right (is_one_of (47 ∷ 92 ∷ []) c) (list_any (is_one_of (47 ∷ 92 ∷ [])) (u ++ 47 ∷ [])) g)

times_some : (n : ℕ) (x : List ℕ) → x ≢ [] → times (suc n) x ≢ []
times_some n x some e = some (nil_left x (times n x) e)

times_ends : (n : ℕ) (x : List ℕ) → x ≢ [] → EndsWithSlash (times (suc n) x) → EndsWithSlash x
times_ends zero x some h = subst EndsWithSlash (append-nil x) h
times_ends (suc n) x some h = times_ends n x some (ends_back x (times (suc n) x) (times_some n x some) h)

leaf_some : (l : Leaf) → WordedLeaf l → (s : List ℕ) → LeafText l s → s ≢ []
leaf_some (literal false t) w s h e = w.0 (sym h ∙ e)
leaf_some (literal true t) w s h e = w.0 (sym h.0 ∙ e)
leaf_some (class true xs) w s h e = h
leaf_some (class false xs) w s h e = cons_nil h.0 [] (sym h.1 ∙ e)
leaf_some separator w s h e = cons_nil 47 [] (sym h ∙ e)
leaf_some one w s h e = h
leaf_some (zero_or_more v) w s h e = h
leaf_some (tree rooted) w s h e = h

leaf_ends : (l : Leaf) → WordedLeaf l → (s : List ℕ) → LeafText l s → EndsWithSlash s
    → is_boundary_leaf l ≡ true
leaf_ends (literal false t) w s h e = absurd (word_ends t e.0 (sym h ∙ e.1) w.1)
leaf_ends (literal true t) w s h e = absurd (word_ends t e.0 (sym h.0 ∙ e.1) w.1)
leaf_ends (class true xs) w s h e = absurd h
leaf_ends (class false xs) w s h e = absurd (h.2 (one_ends h.0 (subst EndsWithSlash h.1 e)))
leaf_ends separator w s h e = refl
leaf_ends one w s h e = absurd h
leaf_ends (zero_or_more v) w s h e = absurd h
leaf_ends (tree rooted) w s h e = absurd h

-- an invariant text isn't empty
mutual
  pub text_some : {A : Type 0} (t : Tree A) → Full t → Worded t → Apart t → (s : List ℕ) → Text t s → s ≢ []
  text_some (leaf a l) f w g s h e = leaf_some l w s h e
  text_some (alternation a none) f w g s h e = f.0
  text_some (alternation a (more t none)) f w g s h e = text_some t f.1.0 w.0 g.0 s h e
  text_some (alternation a (more t (more u us))) f w g s h e = text_some t f.1.0 w.0 g.0 s h.0 e
  text_some (concatenation a ts) f w g s h e = each_some ts f.0 f.1 w g s h e
  text_some (repetition a t zero high) f w g s h e = true_false (sym (ap (are_incompatible 0) h.2) ∙ g.0)
  text_some (repetition a t (suc n) high) f w g s h e =
      times_some n h.0 (λ k. text_some t f w g.1 h.0 h.1 k) (sym h.3 ∙ e)

  each_some : {A : Type 0} (ts : Trees A) → IsSome ts → FullEach ts → WordedEach ts → ApartEach ts
      → (s : List ℕ) → TextOfEach ts s → s ≢ []
  each_some none some f w g s h e = some
  each_some (more t ts) some f w g s h e = text_some t f.0 w.0 g.0 h.0 h.3 (nil_left h.0 h.1 (sym h.2 ∙ e))

-- and where it ends with `/`, the token ends in a boundary
mutual
  pub text_ends : {A : Type 0} (t : Tree A) → Full t → Worded t → Apart t → (s : List ℕ) → Text t s
      → EndsWithSlash s → ends_in is_boundary_leaf t ≡ true
  text_ends (leaf a l) f w g s h e = leaf_ends l w s h e
  text_ends (alternation a none) f w g s h e = absurd f.0
  text_ends (alternation a (more t none)) f w g s h e =
      true_or (ends_in is_boundary_leaf t) false (text_ends t f.1.0 w.0 g.0 s h e)
  text_ends (alternation a (more t (more u us))) f w g s h e =
      true_or (ends_in is_boundary_leaf t) _ (text_ends t f.1.0 w.0 g.0 s h.0 e)
  text_ends (concatenation a ts) f w g s h e = last_ends ts f.0 f.1 w g s h e
  text_ends (repetition a t zero high) f w g s h e = absurd (nil_ends (subst EndsWithSlash h.3 e))
  text_ends (repetition a t (suc n) high) f w g s h e =
      text_ends t f w g.1 h.0 h.1 (times_ends n h.0 (text_some t f w g.1 h.0 h.1) (subst EndsWithSlash h.3 e))

  last_ends : {A : Type 0} (ts : Trees A) → IsSome ts → FullEach ts → WordedEach ts → ApartEach ts
      → (s : List ℕ) → TextOfEach ts s → EndsWithSlash s → last_ends_in is_boundary_leaf ts ≡ true
  last_ends none some f w g s h e = absurd some
  last_ends (more t none) some f w g s h e =
      text_ends t f.0 w.0 g.0 h.0 h.3 (subst EndsWithSlash (h.2 ∙ ap (λ z. h.0 ++ z) h.4 ∙ append-nil h.0) e)
  last_ends (more t (more u us)) some f w g s h e =
      last_ends (more u us) tt f.1 w.1 g.2 h.1 h.4
      (ends_back h.0 h.1 (each_some (more u us) tt f.1 w.1 g.2 h.1 h.4) (subst EndsWithSlash h.2 e))
