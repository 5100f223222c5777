-- Where neither `/` nor `**` is written, no token bounds components.
use Rattle.std.proofs.Common.{◌≡◌, ◌==◌, ◌||◌, ◌∙◌, ℕ, Bool, true, false, List, [], ◌∷◌, ◌++◌, codes, ap}
use Rattle.std.proofs.Common.{refl, sym, subst}
use Rattle.std.specs.List.{list_any}
use Rattle.wax_test_uses.specs.Names.{IsOneComponent}
use Rattle.wax.specs.Language.{all_spelled, AllHaveNoSlash, alternation, Around, class, class_text}
use Rattle.wax.specs.Language.{concatenation, escapable, evaluation_text, Flags, group, has_boundary}
use Rattle.wax.specs.Language.{HasNoSlash, in_alternation, in_repetition, is_boundary_leaf, is_one_of, Leaf}
use Rattle.wax.specs.Language.{leaf, LeafHasNoSlash, literal, LiteralsHaveNoSlash, more, no_flags, none, one}
use Rattle.wax.specs.Language.{Past, Place, Reads, ReadsBranches, ReadsGlob, ReadsLeaf, ReadsToken}
use Rattle.wax.specs.Language.{ReadsTokens, repetition, separator, some_has_boundary, Span, start}
use Rattle.wax.specs.Language.{toggles_text, Tree, tree, Trees, utf8_len, whole, zero_or_more}

-- ---- what is still to be read

unslashed_after : (w r : List ℕ) → HasNoSlash (w ++ r) → HasNoSlash r
unslashed_after [] r h = h
unslashed_after (c ∷ w) r h = unslashed_after w r h.1

grouped : (w x m y : List ℕ) → w ++ (x ++ m ++ y) ≡ (w ++ x) ++ m ++ y
grouped [] x m y = refl
grouped (c ∷ w) x m y = ap (λ v. c ∷ v) (grouped w x m y)

one_after : (w r e : List ℕ) → e ≡ w ++ r → IsOneComponent e → IsOneComponent r
one_after w r e q h = (
  unslashed_after w r (subst HasNoSlash q h.0),
  λ x y k. h.1 (w ++ x) y (q ∙ ap (λ v. w ++ v) k ∙ grouped w x (codes "**") y),
)

-- the place's text
abbrev Still : Place → Type 0
Still p = IsOneComponent p.rest

past_still : (cs : List ℕ) (p q : Place) → Past cs p q → Still p → Still q
past_still cs p q h s = one_after cs q.rest p.rest h.0 s

flags_still : (p q : Place) → Flags p q → Still p → Still q
flags_still p q no_flags s = s
flags_still p q (group b bs m past flags) s = flags_still _ q flags
    (past_still (codes "(?" ++ toggles_text (b ∷ bs) ++ codes ")") p m past s)

no_slash_past : (p q : Place) → Past (codes "/") p q → Still p → ⊥
no_slash_past p q h s = (subst HasNoSlash h.0 s.0).0 refl

no_tree_past : (p q : Place) → Past (codes "**") p q → Still p → ⊥
no_tree_past p q h s = s.1 [] q.rest h.0

-- ---- tokens

or_both : (a b : Bool) → a ≡ false → b ≡ false → (a || b) ≡ false
or_both a b e f = rw e f

or_apart : (a b : Bool) → (a || b) ≡ false → (a ≡ false) × (b ≡ false)
or_apart false false e = (refl, refl)
or_apart false true e = cc
or_apart true b e = cc

-- a text without a `/` and a backslash
pub has_no_slash : (t : List ℕ) → list_any (is_one_of (47 ∷ 92 ∷ [])) t ≡ false → HasNoSlash t
has_no_slash [] e = tt
has_no_slash (c ∷ t) e =
    let k : ((47 == c) || ((92 == c) || false) ≡ false) × (list_any (is_one_of (47 ∷ 92 ∷ [])) t ≡ false) =
    or_apart (is_one_of (47 ∷ 92 ∷ []) c) (list_any (is_one_of (47 ∷ 92 ∷ [])) t) e in
    let n : (47 == c) ≡ false = (or_apart (47 == c) ((92 == c) || false) k.0).0 in
    ((λ f. (let g : (47 == c) ≡ true = ap (λ z. 47 == z) f in cc)), has_no_slash t k.1)

-- no boundary is in the token, and no `/` in its literals; and of what comes after it the same is still so
abbrev IsPlainTree : Tree Span → Place → Type 0
IsPlainTree t q = (has_boundary t ≡ false) × LiteralsHaveNoSlash t × Still q

abbrev ArePlainTrees : Trees Span → Place → Type 0
ArePlainTrees ts q = (some_has_boundary ts ≡ false) × AllHaveNoSlash ts × Still q

leaf_plain : (around : Around) (first : Bool) (l : Leaf) (p q : Place)
    → ReadsLeaf around first l p q → Still p
    → (is_boundary_leaf l ≡ false) × LeafHasNoSlash l × Still q
leaf_plain around first (literal insensitive t) p q h s =
    (refl, has_no_slash t h.1.1, past_still (all_spelled escapable t) p q h.2 s)
leaf_plain around first (class negated xs) p q h s = (refl, tt, past_still (class_text negated xs) p q h.2 s)
leaf_plain around first separator p q h s = absurd (no_slash_past p q h.0 s)
leaf_plain around first one p q h s = (refl, tt, past_still (codes "?") p q h s)
leaf_plain around first (zero_or_more e) p q h s = (refl, tt, past_still (evaluation_text e) p q h.0 s)
leaf_plain around first (tree true) p q h s = absurd (no_slash_past p h.0 h.1 s)
leaf_plain around first (tree false) p q h s = absurd (no_tree_past p h.1 h.2 s)

module _ (size : ℕ) where
  mutual
    token_plain : (t : Tree Span) (around : Around) (first : Bool) (p q : Place)
        → ReadsToken size t around first p q → Still p → IsPlainTree t q
    token_plain (leaf a l) around first p q h s =
        leaf_plain around first l h.0 q h.2 (flags_still p h.0 h.1 s)
    token_plain (alternation a ts) around first p q h s =
        let inner = past_still (codes "{") h.0 h.1 h.4 (flags_still p h.0 h.3 s) in
        let got = branches_plain ts h.1 h.2 h.5 inner in
        (got.0, got.1, past_still (codes "}") h.2 q h.6 got.2)
    token_plain (repetition a t low high) around first p q h s =
        let inner = past_still (codes "<") h.0 h.1 h.5 (flags_still p h.0 h.4 s) in
        let got = glob_plain t in_repetition h.1 h.2 h.6 inner in
        (got.0, got.1, past_still (h.3 ++ codes ">") h.2 q h.8 got.2)
    token_plain (concatenation a ts) around first p q h s = absurd h

    tokens_plain : (ts : Trees Span) (around : Around) (first : Bool) (p q : Place)
        → ReadsTokens size ts around first p q → Still p → ArePlainTrees ts q
    tokens_plain none around first p q h s = (refl, tt, subst Still h s)
    tokens_plain (more t ts) around first p q h s =
        let got = token_plain t around first p h.0 h.1 s in
        let others = tokens_plain ts around false h.0 q h.2 got.2 in
        (or_both (has_boundary t) (some_has_boundary ts) got.0 others.0, (got.1, others.1), others.2)

    glob_plain : (t : Tree Span) (around : Around) (p q : Place)
        → ReadsGlob size t around p q → Still p → IsPlainTree t q
    glob_plain (concatenation a ts) around p q h s = tokens_plain ts around true p q h.1 s
    glob_plain (leaf a l) around p q h s = absurd h
    glob_plain (alternation a ts) around p q h s = absurd h
    glob_plain (repetition a t low high) around p q h s = absurd h

    branches_plain : (ts : Trees Span) (p q : Place)
        → ReadsBranches size ts p q → Still p → ArePlainTrees ts q
    branches_plain none p q h s = absurd h
    branches_plain (more t none) p q h s =
        let got = glob_plain t in_alternation p q h s in
        (or_both (has_boundary t) false got.0 refl, (got.1, tt), got.2)
    branches_plain (more t (more u us)) p q h s =
        let got = glob_plain t in_alternation p h.0 h.2 s in
        let others = branches_plain (more u us) h.1 q h.4 (past_still (codes ",") h.0 h.1 h.3 got.2) in
        (or_both (has_boundary t) (some_has_boundary (more u us)) got.0 others.0, (got.1, others.1), others.2)

-- of an expression without `/` and `**` the tree holds no boundary, and no `/` in its literals
pub one_component : (e : List ℕ) (t : Tree Span) → Reads e t → IsOneComponent e
    → (has_boundary t ≡ false) × LiteralsHaveNoSlash t
one_component [] t h s = subst (λ u. (has_boundary u ≡ false) × LiteralsHaveNoSlash u) (sym h) (refl, tt)
one_component (c ∷ e) t h s =
    let got = glob_plain (utf8_len (c ∷ e)) t whole (start (c ∷ e)) h.1 h.2 s in (got.0, got.1)
