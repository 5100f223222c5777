-- What starts in no boundary starts in no `**`.
use Rattle.std.proofs.Common.{ap, false, refl, true, ◌≡◌}
use Rattle.wax_token.specs.Syntax.{Leaf, Tree, Trees, alternation, class, concatenation, leaf, literal, more}
use Rattle.wax_token.specs.Syntax.{none, one, repetition, separator, tree, zero_or_more}
use Rattle.wax_token.specs.Kinds.{is_boundary_leaf}
use Rattle.wax_facts.specs.{Situated.{first_starts_in, some_starts_in, starts_with_leaf}, Orderly.IsSome}
use Rattle.wax_facts.specs.Rest.{begins_with_tree}
use Rattle.wax_facts.specs.inner.Cuts.{first_starts_with_tree, some_starts_with_tree, starts_with_tree}
use Rattle.wax_facts.proofs.Trees.{BeginsWithTree, begins_so}
use Rattle.wax_facts.proofs.Truths.{false_or, or_left, or_right, true_false}

leaf_no_tree : {A : Type 0} (a : A) (l : Leaf) → is_boundary_leaf l ≡ false
    → starts_with_tree (leaf a l) ≡ false
leaf_no_tree a (literal i t) e = refl
leaf_no_tree a (class n xs) e = refl
leaf_no_tree a separator e = refl
leaf_no_tree a one e = refl
leaf_no_tree a (zero_or_more v) e = refl
leaf_no_tree a (tree rooted) e = true_false e

mutual
  no_tree : {A : Type 0} (t : Tree A) → starts_with_leaf is_boundary_leaf t ≡ false
      → starts_with_tree t ≡ false
  no_tree (leaf a l) e = leaf_no_tree a l e
  no_tree (alternation a ts) e = some_no_tree ts e
  no_tree (concatenation a ts) e = first_no_tree ts e
  no_tree (repetition a t low high) e = no_tree t e

  some_no_tree : {A : Type 0} (ts : Trees A) → some_starts_in is_boundary_leaf ts ≡ false
      → some_starts_with_tree ts ≡ false
  some_no_tree none e = refl
  some_no_tree (more t ts) e = false_or (starts_with_tree t) (some_starts_with_tree ts)
      (no_tree t (or_left (starts_with_leaf is_boundary_leaf t) (some_starts_in is_boundary_leaf ts) e))
      (some_no_tree ts
      (or_right (starts_with_leaf is_boundary_leaf t) (some_starts_in is_boundary_leaf ts) e))

  pub first_no_tree : {A : Type 0} (ts : Trees A) → first_starts_in is_boundary_leaf ts ≡ false
      → first_starts_with_tree ts ≡ false
  first_no_tree none e = refl
  first_no_tree (more t ts) e = no_tree t e

pub begins_in : {A : Type 0} (ts : Trees A) → begins_with_tree ts ≡ true
    → first_starts_in is_boundary_leaf ts ≡ true
begins_in ts e = let v : BeginsWithTree ts = begins_so ts e in ap (first_starts_in is_boundary_leaf) v.3

pub where_some : {A : Type 0} (ts : Trees A) → (IsSome ts → first_starts_with_tree ts ≡ false)
    → first_starts_with_tree ts ≡ false
where_some none h = refl
where_some (more t ts) h = h tt
