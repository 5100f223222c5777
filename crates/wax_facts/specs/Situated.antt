-- The tokens of a tree, breadth first, each with what stands beside it.
use Rattle.std.specs.{Prelude.{Bool, false, ◌||◌, List, [], ◌∷◌, Option, Some, None}, List.flat_map}
use Rattle.wax_facts.specs.{Alternatives.beside, declared.rules.Side.Side}
use Rattle.wax_token.specs.{Kinds.{is_zero_or_more_leaf, is_boundary_leaf}, Reads.Span}
use Rattle.wax_token.specs.Syntax.{Leaf, Tree, leaf, alternation, concatenation, repetition, Trees, none}
use Rattle.wax_token.specs.{Syntax.more, Words.annotation_of}

-- such a leaf is reached through first tokens of concatenations, bodies of repetitions and all branches of
-- alternations
abbrev mutual
  pub starts_with_leaf : {A : Type 0} → (Leaf → Bool) → Tree A → Bool
  starts_with_leaf such (leaf a l) = such l
  starts_with_leaf such (alternation a ts) = some_starts_in such ts
  starts_with_leaf such (concatenation a ts) = first_starts_in such ts
  starts_with_leaf such (repetition a t low high) = starts_with_leaf such t

  pub some_starts_in : {A : Type 0} → (Leaf → Bool) → Trees A → Bool
  some_starts_in such none = false
  some_starts_in such (more t ts) = starts_with_leaf such t || some_starts_in such ts

  pub first_starts_in : {A : Type 0} → (Leaf → Bool) → Trees A → Bool
  first_starts_in such none = false
  first_starts_in such (more t ts) = starts_with_leaf such t

-- the same through last tokens
abbrev mutual
  pub ends_in : {A : Type 0} → (Leaf → Bool) → Tree A → Bool
  ends_in such (leaf a l) = such l
  ends_in such (alternation a ts) = some_ends_in such ts
  ends_in such (concatenation a ts) = last_ends_in such ts
  ends_in such (repetition a t low high) = ends_in such t

  pub some_ends_in : {A : Type 0} → (Leaf → Bool) → Trees A → Bool
  some_ends_in such none = false
  some_ends_in such (more t ts) = ends_in such t || some_ends_in such ts

  pub last_ends_in : {A : Type 0} → (Leaf → Bool) → Trees A → Bool
  last_ends_in such none = false
  last_ends_in such (more t none) = ends_in such t
  last_ends_in such (more t (more u us)) = last_ends_in such (more u us)

-- what a token shows to the one after it: its span, and whether it has a boundary, or a `*` or `$`, at that
-- side
abbrev pub end_side : Tree Span → Side
end_side t = record {
  span = annotation_of t;
  has_boundary = ends_in is_boundary_leaf t;
  has_zero_or_more = ends_in is_zero_or_more_leaf t;
}

-- what it shows to the one before it
abbrev pub start_side : Tree Span → Side
start_side t = record {
  span = annotation_of t;
  has_boundary = starts_with_leaf is_boundary_leaf t;
  has_zero_or_more = starts_with_leaf is_zero_or_more_leaf t;
}

-- A token with its neighbours: those beside it in its concatenation, else those of the branch around it, each
-- side by itself.
pub record Situated : Type 0 where
  pub token : Tree Span
  pub left : Option Side
  pub right : Option Side

-- the neighbour on the right of a token that these come after
abbrev pub right_of : Trees Span → Option Side → Option Side
right_of none outer = outer
right_of (more t ts) outer = Some (start_side t)

-- the tokens of a tree by level, between two neighbours: itself, its tokens, their tokens, and so on
abbrev mutual
  pub situated_levels : Option Side → Option Side → Tree Span → List (List Situated)
  situated_levels left right (leaf a l) = (record { token = leaf a l; left = left; right = right } ∷ []) ∷ []
  situated_levels left right (alternation a ts) =
      (record { token = alternation a ts; left = left; right = right } ∷ []) ∷ branch_levels left right ts
  situated_levels left right (concatenation a ts) =
      (record { token = concatenation a ts; left = left; right = right } ∷ []) ∷ member_levels left right ts
  situated_levels left right (repetition a t low high) =
      (record { token = repetition a t low high; left = left; right = right } ∷ [])
      ∷ situated_levels left right t

  -- the branches of an alternation have its neighbours
  pub branch_levels : Option Side → Option Side → Trees Span → List (List Situated)
  branch_levels left right none = []
  branch_levels left right (more t ts) = beside (situated_levels left right t) (branch_levels left right ts)

  -- the tokens of a concatenation are one another's neighbours
  pub member_levels : Option Side → Option Side → Trees Span → List (List Situated)
  member_levels left right none = []
  member_levels left right (more t ts) =
      beside (situated_levels left (right_of ts right) t) (member_levels (Some (end_side t)) right ts)

-- all tokens of a glob, breadth first
abbrev pub breadth_first : Tree Span → List Situated
breadth_first t = flat_map (λ level. level) (situated_levels None None t)
