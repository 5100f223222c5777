-- Tokens as lists, and what a token holds.
use Rattle.std.specs.Prelude.{Bool, true, false, List, [], ◌∷◌}
use Rattle.wax_token.specs.Syntax.{Tree, leaf, alternation, concatenation, repetition, Trees, none, more}

abbrev pub trees : {A : Type 0} → List (Tree A) → Trees A
trees [] = none
trees (t ∷ ts) = more t (trees ts)

abbrev pub listed : {A : Type 0} → Trees A → List (Tree A)
listed none = []
listed (more t ts) = t ∷ listed ts

abbrev pub is_leaf_tree : {A : Type 0} → Tree A → Bool
is_leaf_tree (leaf a l) = true
is_leaf_tree (alternation a ts) = false
is_leaf_tree (concatenation a ts) = false
is_leaf_tree (repetition a t low high) = false

-- the tokens of a concatenation, and any other token alone
abbrev pub members : {A : Type 0} → Tree A → Trees A
members (leaf a l) = more (leaf a l) none
members (alternation a ts) = more (alternation a ts) none
members (concatenation a ts) = ts
members (repetition a t low high) = more (repetition a t low high) none

abbrev pub annotation_of : {A : Type 0} → Tree A → A
annotation_of (leaf a l) = a
annotation_of (alternation a ts) = a
annotation_of (concatenation a ts) = a
annotation_of (repetition a t low high) = a
