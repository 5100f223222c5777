-- All tokens of a tree, each before those that it holds.
use Rattle.std.specs.Prelude.{List, [], ◌∷◌, ◌++◌}
use Rattle.wax_token.specs.Syntax.{Tree, leaf, alternation, concatenation, repetition, Trees, none, more}

abbrev mutual
  pub subtrees : {A : Type 0} → Tree A → List (Tree A)
  subtrees (leaf a l) = leaf a l ∷ []
  subtrees (alternation a ts) = alternation a ts ∷ subtrees_each ts
  subtrees (concatenation a ts) = concatenation a ts ∷ subtrees_each ts
  subtrees (repetition a t low high) = repetition a t low high ∷ subtrees t

  pub subtrees_each : {A : Type 0} → Trees A → List (Tree A)
  subtrees_each none = []
  subtrees_each (more t ts) = subtrees t ++ subtrees_each ts
