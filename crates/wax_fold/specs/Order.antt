-- The tokens of trees breadth first: level after level, where each level is the children of the one before.
use Rattle.std.specs.{Prelude.{ℕ, ◌+◌, zero, suc, max, List, [], ◌∷◌, ◌++◌, map}, List.flat_map}
use Rattle.wax_token.specs.Syntax.{Tree, leaf, alternation, concatenation, repetition, tree_size}
use Rattle.wax_token.specs.Words.{listed}
use Rattle.wax_fold.specs.declared.walk.branch.BranchFold.{BranchFold}
use Rattle.wax_fold.specs.declared.walk.branch.BranchFold.TheVariants.{Alternation, Concatenation, Repetition}
use Rattle.wax_fold.specs.{declared.walk.entry.Position.Position, Branches.{Branch, picked}}
use Rattle.wax_fold.specs.Positions.{origin, conjunction, disjunction}

-- a token, and where it stands
pub record Entry (A : Type 0) : Type 0 where
  pub token : Tree A
  pub position : Position

-- a whole tree
abbrev pub root_entry : {A : Type 0} → Tree A → Entry A
root_entry t = record { token = t; position = origin }

-- branches of an alternation, numbered from a number on
abbrev pub disjuncts : {A : Type 0} → Position → ℕ → List (Tree A) → List (Entry A)
disjuncts p n [] = []
disjuncts p n (t ∷ ts) = record { token = t; position = disjunction p n } ∷ disjuncts p (n + 1) ts

-- tokens of a concatenation or a repetition
abbrev pub conjuncts : {A : Type 0} → Position → List (Tree A) → List (Entry A)
conjuncts p ts = map (λ t. record { token = t; position = conjunction p }) ts

-- tokens of a branch of that kind that stands there
abbrev pub placed : {A : Type 0} → BranchFold → Position → List (Tree A) → List (Entry A)
placed Alternation p ts = disjuncts p 0 ts
placed Concatenation p ts = conjuncts p ts
placed (Repetition low high) p ts = conjuncts p ts

module _ {A : Type 0} (chosen : Branch A → List ℕ) where
  -- the tokens of a branch that are chosen
  abbrev pub chosen_in : Branch A → Position → List (Entry A)
  chosen_in b p = placed b.kind p (picked (chosen b) b.tokens)

  abbrev pub children_at : Position → Tree A → List (Entry A)
  children_at p (leaf a l) = []
  children_at p (alternation a ts) = chosen_in (record { kind = Alternation; tokens = listed ts }) p
  children_at p (concatenation a ts) = chosen_in (record { kind = Concatenation; tokens = listed ts }) p
  children_at p (repetition a t low high) =
      chosen_in (record { kind = Repetition low high; tokens = t ∷ [] }) p

  abbrev pub children : Entry A → List (Entry A)
  children e = children_at e.position e.token

  -- the level that is so far below some tokens, and all levels down to it
  abbrev pub level : ℕ → List (Entry A) → List (Entry A)
  level zero es = es
  level (suc n) es = flat_map children (level n es)

  abbrev pub levels_to : ℕ → List (Entry A) → List (Entry A)
  levels_to zero es = es
  levels_to (suc n) es = levels_to n es ++ level (suc n) es

-- trees have no more levels than this
abbrev pub height : {A : Type 0} → List (Entry A) → ℕ
height [] = 0
height (e ∷ es) = max (tree_size e.token + 1) (height es)

-- these tokens and all below them, level after level
abbrev pub breadth_first : {A : Type 0} → (Branch A → List ℕ) → List (Entry A) → List (Entry A)
breadth_first chosen es = levels_to chosen (height es) es

-- all tokens of a tree that are chosen
abbrev pub tree_order : {A : Type 0} → (Branch A → List ℕ) → Tree A → List (Entry A)
tree_order chosen t = breadth_first chosen (root_entry t ∷ [])
