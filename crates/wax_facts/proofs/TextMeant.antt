-- An invariant text is meant.
use Rattle.std.proofs.Common.{Bool, List, [], ap, append-nil, arith, false, inl, nat_le, not, refl, rules}
use Rattle.std.proofs.Common.{subst, suc, sym, true, zero, ℕ, ◌&&◌, ◌++◌, ◌==◌, ◌∙◌, ◌∷◌, ◌≡◌, ◌≢◌}
use Rattle.std.specs.List.{list_all, list_any}
use Rattle.wax_query.specs.Ranges.{AtMost}
use Rattle.wax_token.specs.Meaning.{Copies, LeafMeans, Means, MeansEach, SameFold, SameText, in_archetype}
use Rattle.wax_token.specs.Meaning.{in_class, is_forward}
use Rattle.wax_token.specs.Syntax.{Leaf, Tree, Trees, alternation, class, concatenation, leaf, literal, more}
use Rattle.wax_token.specs.Syntax.{none, one, repetition, separator, tree, zero_or_more}
use Rattle.wax_token.specs.declared.token.Archetype.{Archetype}
use Rattle.wax_token.specs.declared.token.Archetype.TheVariants.{Character, Range}
use Rattle.wax_facts.specs.InvariantText.{is_only, LeafText, Text, TextOfEach, times}
use Rattle.wax_facts.specs.Orderly.{Full, FullEach, IsSome}
use Rattle.wax_facts.proofs.Truths.{and_parts, true_and, true_or}

pub itself : (insensitive : Bool) (t : List ℕ) → SameText insensitive t t
unfolding SameFold
itself b [] = tt
itself false (c ∷ t) = (refl, itself false t)
itself true (c ∷ t) = (refl, itself true t)

eq_self : (c : ℕ) → (c == c) ≡ true
eq_self c = search rules

le_self : (c : ℕ) → nat_le c c ≡ true
le_self c = search rules

not_slash : (c : ℕ) → c ≢ 47 → (c == 47) ≡ false
not_slash c e = search rules

is_equal : (c d : ℕ) → (c == d) ≡ true → c ≡ d
is_equal c d e = search rules

is_in : (c : ℕ) (x : Archetype) → is_only c x ≡ true → (is_forward x ≡ true) × (in_archetype c x ≡ true)
is_in c (Character d) o = (refl, ap (λ z. c == z) (is_equal d c o) ∙ eq_self c)
is_in c (Range low high) o =
    let p : ((low == c) ≡ true) × ((high == c) ≡ true) = and_parts (low == c) (high == c) o in
    let l : low ≡ c = is_equal low c p.0 in
    let h : high ≡ c = is_equal high c p.1 in (
      ap (λ z. nat_le z high) l ∙ ap (nat_le c) h ∙ le_self c,
      true_and (nat_le low c) (nat_le c high) (ap (λ z. nat_le z c) l ∙ le_self c)
          (ap (nat_le c) h ∙ le_self c),
    )

are_forward : (c : ℕ) (xs : List Archetype) → list_all (is_only c) xs ≡ true → list_all is_forward xs ≡ true
are_forward c [] o = refl
are_forward c (x ∷ xs) o =
    let p : (is_only c x ≡ true) × (list_all (is_only c) xs ≡ true) =
    and_parts (is_only c x) (list_all (is_only c) xs) o in
    true_and (is_forward x) (list_all is_forward xs) (is_in c x p.0).0 (are_forward c xs p.1)

one_in : (c : ℕ) (xs : List Archetype) → xs ≢ [] → list_all (is_only c) xs ≡ true
    → list_any (in_archetype c) xs ≡ true
one_in c [] some o = absurd (some refl)
one_in c (x ∷ xs) some o =
    true_or (in_archetype c x) (list_any (in_archetype c) xs)
    (is_in c x (and_parts (is_only c x) (list_all (is_only c) xs) o).0).1

class_has : (c : ℕ) (xs : List Archetype) → c ≢ 47 → xs ≢ [] → list_all (is_only c) xs ≡ true
    → in_class false xs c ≡ true
class_has c xs e some o =
    true_and (not (c == 47) && list_all is_forward xs) (list_any (in_archetype c) xs)
    (true_and (not (c == 47)) (list_all is_forward xs) (ap not (not_slash c e)) (are_forward c xs o))
    (one_in c xs some o)

leaf_meant : (l : Leaf) (s : List ℕ) → LeafText l s → (before after : Bool) → LeafMeans l before after s
leaf_meant (literal false t) s h before after =
    subst (LeafMeans (literal false t) before after) (sym h) (itself false t)
leaf_meant (literal true t) s h before after =
    subst (LeafMeans (literal true t) before after) (sym h.0) (itself true t)
leaf_meant (class true xs) s h before after = absurd h
leaf_meant (class false xs) s h before after = (h.0, h.1, class_has h.0 xs h.2 h.3 h.4)
leaf_meant separator s h before after = h
leaf_meant one s h before after = absurd h
leaf_meant (zero_or_more evaluation) s h before after = absurd h
leaf_meant (tree rooted) s h before after = absurd h

copies_meant : (Body : Bool → Bool → List ℕ → Type 0) (x : List ℕ)
    → ((before after : Bool) → Body before after x) → (k : ℕ) (before after : Bool)
    → Copies k Body before after (times k x)
copies_meant Body x f zero before after = refl
copies_meant Body x f (suc zero) before after =
    subst (Body before after) (sym (append-nil x)) (f before after)
copies_meant Body x f (suc (suc k)) before after =
    (x, times (suc k) x, refl, f before true, copies_meant Body x f (suc k) true after)

mutual
  pub text_meant : {A : Type 0} (t : Tree A) → Full t → (s : List ℕ) → Text t s → (b f : Bool) → Means t b f s
  text_meant (leaf a l) w s h b f = leaf_meant l s h b f
  text_meant (alternation a none) w s h b f = absurd w.0
  text_meant (alternation a (more t none)) w s h b f = inl (text_meant t w.1.0 s h b f)
  text_meant (alternation a (more t (more u us))) w s h b f = inl (text_meant t w.1.0 s h.0 b f)
  text_meant (concatenation a ts) w s h b f = each_meant ts w.0 w.1 s h b f
  text_meant (repetition a t low high) w s h b f = (
    low,
    omega arith,
    subst (AtMost low) (sym h.2) (omega arith),
    subst (Copies low (Means t) b f) (sym h.3)
        (copies_meant (Means t) h.0 (λ b f. text_meant t w h.0 h.1 b f) low b f),
  )

  pub each_meant : {A : Type 0} (ts : Trees A) → IsSome ts → FullEach ts → (s : List ℕ) → TextOfEach ts s
      → (b f : Bool) → MeansEach ts b f s
  each_meant none some w s h b f = absurd some
  each_meant (more t none) some w s h b f =
      subst (Means t b f) (sym (h.2 ∙ ap (λ z. h.0 ++ z) h.4 ∙ append-nil h.0)) (text_meant t w.0 h.0 h.3 b f)
  each_meant (more t (more u us)) some w s h b f =
      (h.0, h.1, h.2, text_meant t w.0 h.0 h.3 b true, each_meant (more u us) tt w.1 h.1 h.4 true f)
