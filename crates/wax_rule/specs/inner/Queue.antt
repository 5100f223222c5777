-- How the tokens are put into a row. No part of the rules' definition.
use Rattle.std.specs.Prelude.{◌≡◌, ℕ, ◌-◌, take, drop, length, slice_get, List, [], ◌∷◌, Option, Some, None}
use Rattle.std.specs.{Prelude.{Bool, refl}, List.flat_map}
use Rattle.std.specs.Coded.{Coded, code_by, coded_ℕ, coded_bool, coded_option, coded×}
use Rattle.wax_token.specs.{TreeCode.tree_code, Reads.Span}
use Rattle.wax_token.specs.Syntax.{Leaf, Tree, leaf, alternation, concatenation, repetition, Trees, none}
use Rattle.wax_token.specs.{Syntax.more, Words.annotation_of}
use Rattle.wax_facts.specs.{declared.rules.Side.Side, Alternatives.beside}
use Rattle.wax_facts.specs.Situated.{Situated, starts_with_leaf, some_starts_in, ends_in, some_ends_in}
use Rattle.wax_facts.specs.Situated.{start_side, end_side, right_of, situated_levels}
use Rattle.wax_rule.specs.{declared.rule.situated.Edge.Edge, declared.rule.situated.End.End}
use Rattle.wax_rule.specs.declared.rule.situated.End.TheVariants.{Start, Finish}
use Rattle.wax_rule.specs.declared.rule.situated.Neighbour.{Neighbour}

abbrev pub branches : Option Side → Option Side → Trees Span → List Situated
branches left right none = []
branches left right (more t ts) = record { token = t; left = left; right = right } ∷ branches left right ts

abbrev pub siblings : Option Side → Option Side → Trees Span → List Situated
siblings left right none = []
siblings left right (more t ts) =
    record { token = t; left = left; right = right_of ts right } ∷ siblings (Some (end_side t)) right ts

abbrev pub children_between : Option Side → Option Side → Tree Span → List Situated
children_between left right (leaf a l) = []
children_between left right (alternation a ts) = branches left right ts
children_between left right (concatenation a ts) = siblings left right ts
children_between left right (repetition a t low high) = record { token = t; left = left; right = right } ∷ []

-- the tokens that a token holds
abbrev pub children : Situated → List Situated
children s = children_between s.left s.right s.token

-- the levels of these tokens together
abbrev pub all_levels : List Situated → List (List Situated)
all_levels [] = []
all_levels (s ∷ ss) = beside (situated_levels s.left s.right s.token) (all_levels ss)

-- the tokens that the one at the index holds
abbrev pub queue_children : List Situated → ℕ → List Situated
queue_children ss i = flat_map children (take 1 (drop i ss))

-- such a leaf is reached at this end of the tree
abbrev pub is_found_at : End → (Leaf → Bool) → Tree Span → Bool
is_found_at Start such t = starts_with_leaf such t
is_found_at Finish such t = ends_in such t

abbrev pub is_found_at_some : End → (Leaf → Bool) → Trees Span → Bool
is_found_at_some Start such ts = some_starts_in such ts
is_found_at_some Finish such ts = some_ends_in such ts

-- the token at this end of a sequence
abbrev pub IsOutermost : End → List (Tree Span) → Tree Span → Type 0
IsOutermost Start ts t = slice_get ts 0 ≡ Some t
IsOutermost Finish ts t = slice_get ts (length ts - 1) ≡ Some t

-- what a token shows to the one that this end of it faces
abbrev pub side_of : End → Tree Span → Side
side_of Start t = start_side t
side_of Finish t = end_side t

-- the side of a token at which this was found, if it is a neighbour
abbrev pub side_at : Tree Span → Option Edge → Option Side
side_at t None = None
side_at t (Some e) =
    Some (record { span = annotation_of t; has_boundary = e.boundary; has_zero_or_more = e.zero_or_more })

abbrev pub neighbour_side : Neighbour → Option Side
neighbour_side n = side_at n.token.now n.edge

-- the token alone, unless it is a leaf
abbrev pub unless_leaf : Situated → Tree Span → List Situated
unless_leaf s (leaf a l) = []
unless_leaf s (alternation a ts) = s ∷ []
unless_leaf s (concatenation a ts) = s ∷ []
unless_leaf s (repetition a t low high) = s ∷ []

-- those of the tokens that hold tokens
abbrev pub only_branches : List Situated → List Situated
only_branches ss = flat_map (λ s. unless_leaf s s.token) ss

-- how proofs show that two differ: each is stored as the tuple of its fields
abbrev pub side_code : Coded Side
side_code = code_by (Span × (Bool × Bool)) (coded× (coded× coded_ℕ coded_ℕ) (coded× coded_bool coded_bool))
    (λ s. (s.span, (s.has_boundary, s.has_zero_or_more)))
    (λ p. record { span = p.0; has_boundary = p.1.0; has_zero_or_more = p.1.1 }) (λ _. refl)

abbrev pub situated_code : Coded Situated
situated_code =
    code_by (Tree Span × (Option Side × Option Side))
    (coded× (tree_code (coded× coded_ℕ coded_ℕ)) (coded× (coded_option side_code) (coded_option side_code)))
    (λ s. (s.token, (s.left, s.right))) (λ p. record { token = p.0; left = p.1.0; right = p.1.1 }) (λ _. refl)
