-- Each token has at most one invariant text.
use Rattle.std.proofs.Common.{◌≡◌, ◌≢◌, ℕ, ◌==◌, true, false, List, [], ◌∷◌, ◌++◌, refl, sym, ◌∙◌, ap, rules}
use Rattle.std.specs.List.{list_all}
use Rattle.wax_token.specs.declared.token.Archetype.{Archetype}
use Rattle.wax_token.specs.declared.token.Archetype.TheVariants.{Character, Range}
use Rattle.wax_token.specs.Syntax.{Leaf, literal, class, separator, one, zero_or_more, tree, Tree, leaf}
use Rattle.wax_token.specs.Syntax.{alternation, concatenation, repetition, Trees, none, more}
use Rattle.wax_facts.specs.InvariantText.{is_only, times, LeafText, Text, TextOfAll, TextOfEach}
use Rattle.wax_facts.proofs.Truths.{and_parts}

same_equal : (c d : ℕ) → (c == d) ≡ true → c ≡ d
same_equal c d e = search rules

only_one : (c d : ℕ) (x : Archetype) → is_only c x ≡ true → is_only d x ≡ true → c ≡ d
only_one c d (Character b) o e = sym (same_equal b c o) ∙ same_equal b d e
only_one c d (Range low high) o e =
    sym (same_equal low c (and_parts (low == c) (high == c) o).0)
    ∙ same_equal low d (and_parts (low == d) (high == d) e).0

class_one : (c d : ℕ) (xs : List Archetype) → xs ≢ [] → list_all (is_only c) xs ≡ true
    → list_all (is_only d) xs ≡ true → c ≡ d
class_one c d [] some o e = absurd (some refl)
class_one c d (x ∷ xs) some o e =
    only_one c d x (and_parts (is_only c x) (list_all (is_only c) xs) o).0
    (and_parts (is_only d x) (list_all (is_only d) xs) e).0

leaf_unique : (l : Leaf) (x y : List ℕ) → LeafText l x → LeafText l y → x ≡ y
leaf_unique (literal false t) x y h k = h ∙ sym k
leaf_unique (literal true t) x y h k = h.0 ∙ sym k.0
leaf_unique (class true xs) x y h k = absurd h
leaf_unique (class false xs) x y h k = h.1 ∙ ap (λ c. c ∷ []) (class_one h.0 k.0 xs h.3 h.4 k.4) ∙ sym k.1
leaf_unique separator x y h k = h ∙ sym k
leaf_unique one x y h k = absurd h
leaf_unique (zero_or_more evaluation) x y h k = absurd h
leaf_unique (tree rooted) x y h k = absurd h

mutual
  pub text_unique : {A : Type 0} (t : Tree A) (x y : List ℕ) → Text t x → Text t y → x ≡ y
  text_unique (leaf a l) x y h k = leaf_unique l x y h k
  text_unique (alternation a ts) x y h k = all_unique ts x y h k
  text_unique (concatenation a ts) x y h k = each_unique ts x y h k
  text_unique (repetition a t low high) x y h k =
      h.3 ∙ ap (times low) (text_unique t h.0 k.0 h.1 k.1) ∙ sym k.3

  all_unique : {A : Type 0} (ts : Trees A) (x y : List ℕ) → TextOfAll ts x → TextOfAll ts y → x ≡ y
  all_unique none x y h k = h ∙ sym k
  all_unique (more t none) x y h k = text_unique t x y h k
  all_unique (more t (more u us)) x y h k = text_unique t x y h.0 k.0

  each_unique : {A : Type 0} (ts : Trees A) (x y : List ℕ) → TextOfEach ts x → TextOfEach ts y → x ≡ y
  each_unique none x y h k = h ∙ sym k
  each_unique (more t ts) x y h k =
      h.2 ∙ ap (λ z. z ++ h.1) (text_unique t h.0 k.0 h.3 k.3)
      ∙ ap (λ z. k.0 ++ z) (each_unique ts h.1 k.1 h.4 k.4) ∙ sym k.2
