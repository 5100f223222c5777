-- Token trees as plain data.
use Rattle.std.specs.Prelude.{ℕ, ◌+◌, Bool, List, Option}
use Rattle.wax_token.specs.{declared.token.Archetype.Archetype, declared.token.Evaluation.Evaluation}

pub data Leaf : Type 0 where
  literal : Bool → List ℕ → Leaf
  class : Bool → List Archetype → Leaf
  separator : Leaf
  one : Leaf
  zero_or_more : Evaluation → Leaf
  tree : Bool → Leaf

mutual
  pub data Tree (A : Type 0) : Type 0 where
    leaf : A → Leaf → Tree A
    alternation : A → Trees A → Tree A
    concatenation : A → Trees A → Tree A
    repetition : A → Tree A → ℕ → Option ℕ → Tree A

  pub data Trees (A : Type 0) : Type 0 where
    none : Trees A
    more : Tree A → Trees A → Trees A

abbrev mutual
  pub tree_size : {A : Type 0} → Tree A → ℕ
  tree_size (leaf a l) = 0
  tree_size (alternation a ts) = trees_size ts + 1
  tree_size (concatenation a ts) = trees_size ts + 1
  tree_size (repetition a t low high) = tree_size t + 1

  pub trees_size : {A : Type 0} → Trees A → ℕ
  trees_size none = 0
  trees_size (more t ts) = tree_size t + trees_size ts + 1
