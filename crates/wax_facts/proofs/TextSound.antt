-- Where the text of a tree is invariant, the tree means no other.
use Rattle.std.proofs.Common.{Bool, List, Some, [], ap, append-nil, arith, false, inl, inr, nat_le, not, refl}
use Rattle.std.proofs.Common.{rules, subst, suc, sym, true, zero, ℕ, ◌&&◌, ◌++◌, ◌==◌, ◌∙◌, ◌∷◌, ◌≡◌, ◌≤◌}
use Rattle.std.specs.List.{list_all, list_any}
use Rattle.wax_query.specs.Ranges.{AtMost}
use Rattle.wax_token.specs.Meaning.{Copies, LeafMeans, Means, MeansEach, MeansSome, SameText, in_archetype}
use Rattle.wax_token.specs.Meaning.{in_class, is_forward}
use Rattle.wax_token.specs.Syntax.{Leaf, Tree, Trees, alternation, class, concatenation, leaf, literal, more}
use Rattle.wax_token.specs.Syntax.{none, one, repetition, separator, tree, zero_or_more}
use Rattle.wax_token.specs.declared.token.Archetype.{Archetype}
use Rattle.wax_token.specs.declared.token.Archetype.TheVariants.{Character, Range}
use Rattle.wax_facts.specs.InvariantText.{AllFoldAlone, is_only, LeafText, Text, TextOfAll, TextOfEach, times}
use Rattle.wax_facts.proofs.Truths.{and_parts, false_true, or_parts}

same_plain : (t u : List ℕ) → SameText false t u → u ≡ t
same_plain [] [] h = refl
same_plain [] (d ∷ u) h = absurd h
same_plain (c ∷ t) [] h = absurd h
same_plain (c ∷ t) (d ∷ u) h = ap (λ z. z ∷ u) (sym h.0) ∙ ap (λ z. c ∷ z) (same_plain t u h.1)

same_folded : (t u : List ℕ) → AllFoldAlone t → SameText true t u → u ≡ t
same_folded [] [] f h = refl
same_folded [] (d ∷ u) f h = absurd h
same_folded (c ∷ t) [] f h = absurd h
same_folded (c ∷ t) (d ∷ u) f h = ap (λ z. z ∷ u) (f.0 d h.0) ∙ ap (λ z. c ∷ z) (same_folded t u f.1 h.1)

equal : (c d : ℕ) → (c == d) ≡ true → c ≡ d
equal c d e = search rules

le_from : (m n : ℕ) → nat_le m n ≡ true → m ≤ n
le_from m n e = search rules

only_in : (c d : ℕ) (x : Archetype) → is_only c x ≡ true → in_archetype d x ≡ true → d ≡ c
only_in c d (Character b) o e = equal d b e ∙ equal b c o
only_in c d (Range low high) o e =
    let p : (nat_le low d ≡ true) × (nat_le d high ≡ true) = and_parts (nat_le low d) (nat_le d high) e in
    let q : ((low == c) ≡ true) × ((high == c) ≡ true) = and_parts (low == c) (high == c) o in
    omega (arith, le_from low d p.0, le_from d high p.1, equal low c q.0, equal high c q.1)

in_only : (c d : ℕ) (xs : List Archetype) → list_all (is_only c) xs ≡ true
    → list_any (in_archetype d) xs ≡ true → d ≡ c
in_only c d [] o e = false_true e
in_only c d (x ∷ xs) o e =
    let p : (is_only c x ≡ true) × (list_all (is_only c) xs ≡ true) =
    and_parts (is_only c x) (list_all (is_only c) xs) o in
    elim (or_parts (in_archetype d x) (list_any (in_archetype d) xs) e) [
      | inl f ↦ only_in c d x p.0 f
      | inr f ↦ in_only c d xs p.1 f
    ]

class_parts : (xs : List Archetype) (c : ℕ) → in_class false xs c ≡ true → list_any (in_archetype c) xs ≡ true
class_parts xs c e = (and_parts (not (c == 47) && list_all is_forward xs) (list_any (in_archetype c) xs) e).1

leaf_text_sound : (l : Leaf) (s : List ℕ) → LeafText l s → (before after : Bool) (u : List ℕ)
    → LeafMeans l before after u → u ≡ s
leaf_text_sound (literal false t) s h before after u m = same_plain t u m ∙ sym h
leaf_text_sound (literal true t) s h before after u m = same_folded t u h.1 m ∙ sym h.0
leaf_text_sound (class true xs) s h before after u m = absurd h
leaf_text_sound (class false xs) s h before after u m =
    m.1 ∙ ap (λ z. z ∷ []) (in_only h.0 m.0 xs h.4 (class_parts xs m.0 m.2)) ∙ sym h.1
leaf_text_sound separator s h before after u m = m ∙ sym h
leaf_text_sound one s h before after u m = absurd h
leaf_text_sound (zero_or_more evaluation) s h before after u m = absurd h
leaf_text_sound (tree rooted) s h before after u m = absurd h

copies_text : (Body : Bool → Bool → List ℕ → Type 0) (x : List ℕ)
    → ((before after : Bool) (u : List ℕ) → Body before after u → u ≡ x)
    → (k : ℕ) (before after : Bool) (u : List ℕ) → Copies k Body before after u → u ≡ times k x
copies_text Body x f zero before after u h = h
copies_text Body x f (suc zero) before after u h = f before after u h ∙ sym (append-nil x)
copies_text Body x f (suc (suc k)) before after u h =
    h.2 ∙ ap (λ z. z ++ h.1) (f before true h.0 h.3)
    ∙ ap (λ z. x ++ z) (copies_text Body x f (suc k) true after h.1 h.4)

mutual
  pub text_sound : {A : Type 0} (t : Tree A) (s : List ℕ) → Text t s → (before after : Bool) (u : List ℕ)
      → Means t before after u → u ≡ s
  text_sound (leaf a l) s h before after u m = leaf_text_sound l s h before after u m
  text_sound (alternation a ts) s h before after u m = text_of_all ts s h before after u m
  text_sound (concatenation a ts) s h before after u m = text_of_each ts s h before after u m
  text_sound (repetition a t low high) s h before after u m =
      let le : AtMost m.0 (Some low) = subst (AtMost m.0) h.2 m.2 in
      let e : m.0 ≡ low = omega (arith, m.1, le) in
      copies_text (Means t) h.0 (λ b f v w. text_sound t h.0 h.1 b f v w) m.0 before after u m.3
      ∙ ap (λ k. times k h.0) e ∙ sym h.3

  text_of_all : {A : Type 0} (ts : Trees A) (s : List ℕ) → TextOfAll ts s → (before after : Bool) (u : List ℕ)
      → MeansSome ts before after u → u ≡ s
  text_of_all none s h before after u m = absurd m
  text_of_all (more t none) s h before after u m =
      elim m [ inl k ↦ text_sound t s h before after u k | inr k ↦ absurd k ]
  text_of_all (more t (more v vs)) s h before after u m = elim m [
    | inl k ↦ text_sound t s h.0 before after u k
    | inr k ↦ text_of_all (more v vs) s h.1 before after u k
  ]

  pub text_of_each : {A : Type 0} (ts : Trees A) (s : List ℕ) → TextOfEach ts s
      → (before after : Bool) (u : List ℕ) → MeansEach ts before after u → u ≡ s
  text_of_each none s h before after u m = m ∙ sym h
  text_of_each (more t none) s h before after u m =
      text_sound t h.0 h.3 before after u m ∙ sym (h.2 ∙ ap (λ z. h.0 ++ z) h.4 ∙ append-nil h.0)
  text_of_each (more t (more v vs)) s h before after u m =
      m.2 ∙ ap (λ z. z ++ m.1) (text_sound t h.0 h.3 before true m.0 m.3)
      ∙ ap (λ z. h.0 ++ z) (text_of_each (more v vs) h.1 h.4 true after m.1 m.4) ∙ sym h.2
