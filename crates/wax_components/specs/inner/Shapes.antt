-- How a text begins and ends.
use Rattle.std.specs.Prelude.{◌∷◌, ◌==◌, ◌&&◌, Bool, List, ℕ, [], false, true}

-- the empty text; or whether the text begins and whether it ends with `/`
pub data Shape : Type 0 where
  empty : Shape
  ended : Bool → Bool → Shape

-- of one text after another
abbrev pub joined_shape : Shape → Shape → Shape
joined_shape empty b = b
joined_shape (ended x y) empty = ended x y
joined_shape (ended x y) (ended z w) = ended x w

abbrev pub shape : List ℕ → Shape
shape [] = empty
shape (c ∷ []) = ended (c == 47) (c == 47)
shape (c ∷ d ∷ s) = joined_shape (ended (c == 47) (c == 47)) (shape (d ∷ s))

abbrev pub same_bool : Bool → Bool → Bool
same_bool true b = b
same_bool false true = false
same_bool false false = true

abbrev pub same_shape : Shape → Shape → Bool
same_shape empty empty = true
same_shape empty (ended x y) = false
same_shape (ended x y) empty = false
same_shape (ended x y) (ended z w) = same_bool x z && same_bool y w
