-- A token tree that is built anew from the leaves up.
use Rattle.std.specs.Prelude.{List, [], ◌++◌, Option, Some}
use Rattle.wax_token.specs.Syntax.{Leaf, Tree, leaf, alternation, concatenation, repetition, Trees, none}
use Rattle.wax_token.specs.Syntax.{more}
use Rattle.wax_fold.specs.declared.walk.branch.BranchFold.{BranchFold}
use Rattle.wax_fold.specs.declared.walk.branch.BranchFold.TheVariants.{Alternation, Concatenation, Repetition}
use Rattle.wax_fold.specs.Folded.{listed_term}

-- what a folder answers: the new token of a branch, by its annotation, its kind and its new tokens, and the
-- new token of a leaf with its annotation
pub record Mapping (A X : Type 0) : Type 0 where
  pub fold : A → BranchFold → List X → Option X
  pub map : A → Leaf → X

abbrev mutual
  pub mapped : {A X : Type 0} → Mapping A X → Tree A → Option X
  mapped f (leaf a l) = Some (f.map a l)
  mapped f (alternation a ts) = f.fold a Alternation (mapped_each f ts)
  mapped f (concatenation a ts) = f.fold a Concatenation (mapped_each f ts)
  mapped f (repetition a t low high) = f.fold a (Repetition low high) (listed_term (mapped f t))

  -- the new tokens of those that have one, in order
  pub mapped_each : {A X : Type 0} → Mapping A X → Trees A → List X
  mapped_each f none = []
  mapped_each f (more t ts) = listed_term (mapped f t) ++ mapped_each f ts
