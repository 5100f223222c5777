-- A glob's walk may go to its prefix, and no deeper than its texts.
use Rattle.std.proofs.Common.{◌≡◌, ◌==◌, ◌||◌, ℕ, Bool, true, false, List, [], ◌∷◌, map, inl, inr, refl, sym}
use Rattle.std.proofs.{Common.{subst, ap, chars}, lemmas.Bool.or_parts}
use Rattle.std.specs.List.{list_any}
use Rattle.wax_facts.specs.{Orderly.{Worded, WordedEach, WordedLeaf}, Prefix.Prefix}
use Rattle.wax_exclude.proofs.{Beginnings.begins_with, Origins.{candidate_is, greatest_at, names_are}}
use Rattle.wax_query.specs.{Components.component_total, Ranges.{AtMost, Bounds}}
use Rattle.wax_token.specs.{Meaning.{HasNoSlash, Means}, Reads.{Span, is_one_of}}
use Rattle.wax_token.specs.Spelled.{AllHaveNoSlash, LeafHasNoSlash, LiteralsHaveNoSlash}
use Rattle.wax_token.specs.Syntax.{Leaf, literal, class, separator, one, zero_or_more, tree, Tree, Trees}
use Rattle.wax_token.specs.Syntax.{leaf, alternation, concatenation, repetition, none, more}
use Rattle.wax_tree.specs.{Prefix.ArePlain, declared.steps.DepthRange.DepthRange}
use Rattle.wax_exclude.specs.{Wanted.Filter, Premises.{BeginsWith, CanWalk, IsUnmeant}, Prefix.HasEmptyName}
use Rattle.wax.specs.{GlobView.IsKept, GlobWalks.{Beginning, wants, origin_from, within}}
use Rattle.wax_exclude.proofs.Beginnings as beginnings

-- ---- literals

has_no_slash : (t : List ℕ) → list_any (is_one_of (47 ∷ 92 ∷ [])) t ≡ false → HasNoSlash t
has_no_slash [] e = tt
has_no_slash (c ∷ t) e =
    let k : ((47 == c) || ((92 == c) || false) ≡ false) × (list_any (is_one_of (47 ∷ 92 ∷ [])) t ≡ false) =
    or_parts (is_one_of (47 ∷ 92 ∷ []) c) (list_any (is_one_of (47 ∷ 92 ∷ [])) t) e in
    let n : (47 == c) ≡ false = (or_parts (47 == c) ((92 == c) || false) k.0).0 in
    ((λ f. (let g : (47 == c) ≡ true = ap (λ z. 47 == z) f in cc)), has_no_slash t k.1)

leaf_slashless : (l : Leaf) → WordedLeaf l → LeafHasNoSlash l
leaf_slashless (literal insensitive t) h = has_no_slash t h.1
leaf_slashless (class negated xs) h = tt
leaf_slashless separator h = tt
leaf_slashless one h = tt
leaf_slashless (zero_or_more e) h = tt
leaf_slashless (tree rooted) h = tt

mutual
  worded_slashless : {A : Type 0} (t : Tree A) → Worded t → LiteralsHaveNoSlash t
  worded_slashless (leaf a l) h = leaf_slashless l h
  worded_slashless (alternation a ts) h = each_slashless ts h
  worded_slashless (concatenation a ts) h = each_slashless ts h
  worded_slashless (repetition a t low high) h = worded_slashless t h

  each_slashless : {A : Type 0} (ts : Trees A) → WordedEach ts → AllHaveNoSlash ts
  each_slashless none h = tt
  each_slashless (more t ts) h = (worded_slashless t h.0, each_slashless ts h.1)

kept_slashless : (t : Tree Span) → IsKept t → LiteralsHaveNoSlash t
kept_slashless t (inl o) = worded_slashless t o.2
kept_slashless t (inr e) = subst LiteralsHaveNoSlash (sym e) tt

-- ---- what a walk of a glob may do

pub can_walk : (t : Tree Span) → IsKept t → (depth : Bounds)
    → ((s : List ℕ) → Means t false false s → AtMost (component_total s) depth.1) →
    (start : List ℕ) (asked : DepthRange) (b : Beginning t) (filters : List (Filter Span)) → ArePlain b.names
    →
    CanWalk (wants t b filters) asked (within asked depth) (origin_from start b.rooted b.names)
can_walk t kept depth bound start asked b filters plain =
    let k = b.names_are in
    let same = names_are start b.rooted b.names in
    let prefix : Prefix t b.taken (chars k.text) = subst (Prefix t b.taken) (sym k.characters) b.prefix_is in
    record {
      spelled = kept_slashless t kept;
      least = refl;
      greatest = greatest_at t b.rooted asked.max depth.1 bound;
      candidate = candidate_is start b.rooted b.names;
      begins = subst (λ ns. BeginsWith b.rooted t (map chars ns)) same
          (begins_with t b.taken k.text b.rooted b.names k.encoded prefix k.split);
      plain = subst ArePlain same plain;
    }

pub none_match : (t : Tree Span) → IsKept t → (taken : ℕ) (prefix : List ℕ) → Prefix t taken prefix
    → HasEmptyName prefix → (rooted : Bool) → IsUnmeant rooted t
none_match t kept taken prefix p empty = beginnings.none_match t taken prefix p empty
