-- The levels of a token that isn't opened.
use Rattle.std.specs.Prelude.{List, [], ◌∷◌}
use Rattle.wax_token.specs.Syntax.{Tree, leaf, alternation, concatenation, repetition}
use Rattle.wax_facts.specs.Alternatives.{levels_each}

abbrev pub own_levels : {A : Type 0} → Tree A → List (List (Tree A))
own_levels (leaf a l) = (leaf a l ∷ []) ∷ []
own_levels (alternation a ts) = [] ∷ levels_each ts
own_levels (concatenation a ts) = (concatenation a ts ∷ []) ∷ []
own_levels (repetition a t low high) = (repetition a t low high ∷ []) ∷ []
