-- The cost of a token tree.
use Rattle.std.specs.Prelude.{ℕ, ◌+◌, ◌*◌, Bool, true, false, ◌||◌, if◌then◌else◌, length, Option, Some, None}
use Rattle.wax_token.specs.Syntax.{Leaf, literal, class, separator, one, zero_or_more, tree, Tree, leaf}
use Rattle.wax_token.specs.Syntax.{alternation, concatenation, repetition, Trees, none, more}

abbrev pub leaf_cost : Leaf → ℕ
leaf_cost (literal _ t) = length t
leaf_cost (class _ _) = 1
leaf_cost separator = 1
leaf_cost one = 1
leaf_cost (zero_or_more _) = 3
leaf_cost (tree _) = 6

abbrev pub is_tree : Leaf → Bool
is_tree (tree _) = true
is_tree (literal _ _) = false
is_tree (class _ _) = false
is_tree separator = false
is_tree one = false
is_tree (zero_or_more _) = false

abbrev mutual
  pub holds_tree : {A : Type 0} → Tree A → Bool
  holds_tree (leaf a l) = is_tree l
  holds_tree (alternation a ts) = some_holds_tree ts
  holds_tree (concatenation a ts) = some_holds_tree ts
  holds_tree (repetition a t low high) = holds_tree t

  pub some_holds_tree : {A : Type 0} → Trees A → Bool
  some_holds_tree none = false
  some_holds_tree (more t ts) = holds_tree t || some_holds_tree ts

-- how many copies of a body are written down
abbrev pub copies_of : ℕ → Option ℕ → Bool → ℕ
copies_of low None has_tree = low + 1 + (if has_tree then 3 else 0)
copies_of low (Some high) has_tree = high + (if has_tree then 3 else 0)

abbrev mutual
  pub cost : {A : Type 0} → Tree A → ℕ
  cost (leaf a l) = leaf_cost l
  cost (alternation a ts) = 1 + branches_cost ts
  cost (concatenation a ts) = costs ts
  cost (repetition a t low high) = copies_of low high (holds_tree t) * (cost t + 2) + 2

  pub costs : {A : Type 0} → Trees A → ℕ
  costs none = 0
  costs (more t ts) = cost t + costs ts

  pub branches_cost : {A : Type 0} → Trees A → ℕ
  branches_cost none = 0
  branches_cost (more t ts) = cost t + 2 + branches_cost ts

-- of the whole
abbrev pub program_length : {A : Type 0} → Tree A → ℕ
program_length t = cost t + 1
