-- The fold of a token tree.
use Rattle.std.specs.{Prelude.{ℕ, List, [], ◌∷◌, ◌++◌, Option, Some, None}, Option.option_map, List.flat_map}
use Rattle.wax_token.specs.Syntax.{Leaf, Tree, leaf, alternation, concatenation, repetition, Trees, none}
use Rattle.wax_token.specs.{Syntax.more, Words.listed}
use Rattle.wax_fold.specs.declared.walk.branch.BranchFold.TheVariants.{Alternation, Concatenation, Repetition}
use Rattle.wax_fold.specs.Branches.{Branch, picked}

-- what a folder answers: of a branch at first, of a branch with the terms of its tokens, of a branch with the
-- term that this gave, and of a leaf
pub record Folding (A T : Type 0) : Type 0 where
  pub initialize : Branch A → Option T
  pub fold : Branch A → List T → Option T
  pub finalize : Branch A → T → T
  pub term : Leaf → T

-- a term as a list of one, and none as the empty list
abbrev pub listed_term : {T : Type 0} → Option T → List T
listed_term None = []
listed_term (Some x) = x ∷ []

module _ {A T : Type 0} (chosen : Branch A → List ℕ) (f : Folding A T) where
  -- the terms of a branch whose tokens have these terms: of the tokens chosen, those that have one, in the
  -- order chosen, and then the branch's first term
  abbrev pub terms_of : Branch A → List (Option T) → List T
  terms_of b terms = flat_map listed_term (picked (chosen b) terms) ++ listed_term (f.initialize b)

  -- the term of a branch whose tokens have these terms
  abbrev pub branch_term : Branch A → List (Option T) → Option T
  branch_term b terms = option_map (f.finalize b) (f.fold b (terms_of b terms))

  abbrev mutual
    pub folded : Tree A → Option T
    folded (leaf a l) = Some (f.term l)
    folded (alternation a ts) =
        branch_term (record { kind = Alternation; tokens = listed ts }) (folded_each ts)
    folded (concatenation a ts) =
        branch_term (record { kind = Concatenation; tokens = listed ts }) (folded_each ts)
    folded (repetition a t low high) =
        branch_term (record { kind = Repetition low high; tokens = t ∷ [] }) (folded t ∷ [])

    pub folded_each : Trees A → List (Option T)
    folded_each none = []
    folded_each (more t ts) = folded t ∷ folded_each ts
