-- Globs whose matches all begin with `/` have a boundary at once.
use Rattle.std.proofs.Common.{◌≡◌, ℕ, zero, suc, ◌||◌, Bool, true, false, not, List, [], ◌∷◌, if◌then◌else◌}
use Rattle.std.proofs.Common.{refl, sym, ap}
use Rattle.std.specs.List.{before_first, list_any}
use Rattle.wax_exclude.specs.Leading.{leading, leading_of}
use Rattle.wax_facts.specs.{Optional.optional, Root.{root, root_first, root_some}}
use Rattle.wax_components.specs.Parts.{components_in}
use Rattle.wax_query.specs.{Whens.certainty, declared.query.when.When.When}
use Rattle.wax_query.specs.declared.query.when.When.TheVariants.{Always, Never, Sometimes}
use Rattle.wax_token.specs.Kinds.{has_boundary, is_boundary, is_separator, is_tree_wildcard}
use Rattle.wax_token.specs.Kinds.{some_has_boundary}
use Rattle.wax_token.specs.Syntax.{literal, class, separator, one, zero_or_more, tree, Tree, leaf}
use Rattle.wax_token.specs.{Syntax.{alternation, concatenation, repetition, Trees, none, more}, Words.listed}

both_always : (a b : When) → certainty a b ≡ Always → a ≡ Always
both_always Never Never e = cc
both_always Never Sometimes e = cc
both_always Never Always e = cc
both_always Sometimes b e = cc
both_always Always b e = refl

always_anyway : (low : ℕ) (w : When) → optional low w ≡ Always → w ≡ Always
always_anyway zero Never e = cc
always_anyway zero Sometimes e = cc
always_anyway zero Always e = refl
always_anyway (suc low) w e = e

or_first : (a b : Bool) → a ≡ true → (a || b) ≡ true
or_first a b e = ap (λ v. v || b) e

mutual
  bounded : {A : Type 0} (t : Tree A) → root t ≡ Always → has_boundary t ≡ true
  bounded (leaf a (literal insensitive s)) e = cc
  bounded (leaf a (class negated xs)) e = cc
  bounded (leaf a separator) e = refl
  bounded (leaf a one) e = cc
  bounded (leaf a (zero_or_more evaluation)) e = cc
  bounded (leaf a (tree rooted)) e = refl
  bounded (alternation a ts) e = some_bounded ts e
  bounded (concatenation a ts) e = first_bounded ts e
  bounded (repetition a t low high) e = bounded t (always_anyway low (root t) e)

  some_bounded : {A : Type 0} (ts : Trees A) → root_some ts ≡ Always → some_has_boundary ts ≡ true
  some_bounded none e = cc
  some_bounded (more t none) e = or_first (has_boundary t) false (bounded t e)
  some_bounded (more t (more u us)) e = or_first (has_boundary t) (some_has_boundary (more u us))
      (bounded t (both_always (root t) (root_some (more u us)) e))

  first_bounded : {A : Type 0} (ts : Trees A) → root_first ts ≡ Always → some_has_boundary ts ≡ true
  first_bounded none e = cc
  first_bounded (more t ts) e = or_first (has_boundary t) (some_has_boundary ts) (bounded t e)

module _ {A : Type 0} where
  abbrev free : List (List (Tree A)) → List (List (Tree A))
  free parts = before_first (list_any has_boundary) parts

  none_free : (part : List (Tree A)) (parts : List (List (Tree A))) → list_any has_boundary part ≡ true
      → free (part ∷ parts) ≡ []
  none_free part parts e = rw e refl

  -- no component leads if the first token isn't a `/` and has a boundary
  none_leads : (t : Tree A) (ts : List (Tree A)) (w : Bool) → is_separator t ≡ false → is_tree_wildcard t ≡ w
      → has_boundary t ≡ true → free (components_in true (t ∷ ts)) ≡ []
  none_leads t ts true e f h = rw (e, f) (none_free (t ∷ []) (components_in true ts)
      (or_first (has_boundary t) false h))
  none_leads t ts false e f h =
      rw (e, f) (none_free (t ∷ before_first is_boundary ts) (components_in false ts)
      (or_first (has_boundary t) (list_any has_boundary (before_first is_boundary ts)) h))

  either_way : (t : Tree A) (ts : List (Tree A)) (s : Bool) → is_separator t ≡ s → has_boundary t ≡ true
      → (if not s then [] else free (components_in true (t ∷ ts))) ≡ free (components_in true (t ∷ ts))
  either_way t ts true e h = refl
  either_way t ts false e h = sym (none_leads t ts (is_tree_wildcard t) e refl h)

  pub leads_from_root : (t : Tree A) → root t ≡ Always → leading_of true t ≡ leading t
  leads_from_root (leaf a l) e =
      either_way (leaf a l) [] (is_separator (leaf a l)) refl (bounded (leaf a l) e)
  leads_from_root (alternation a ts) e =
      either_way (alternation a ts) [] false refl (bounded (alternation a ts) e)
  leads_from_root (concatenation a none) e = absurd (cc)
  leads_from_root (concatenation a (more t ts)) e =
      either_way t (listed ts) (is_separator t) refl (bounded t e)
  leads_from_root (repetition a t low high) e =
      either_way (repetition a t low high) [] false refl (bounded (repetition a t low high) e)
