-- The alternatives of a token.
use Rattle.std.specs.Prelude.{◌↔◌, ℕ, ◌==◌, Bool, false, ◌&&◌, List, [], ◌∷◌, ◌++◌, if◌then◌else◌, Option}
use Rattle.std.specs.Prelude.{Some, None}
use Rattle.wax_token.specs.Meaning.{Means, MeansSome}
use Rattle.wax_token.specs.Syntax.{Tree, leaf, alternation, concatenation, repetition, Trees, none, more}
use Rattle.wax_token.specs.Words.{trees}

-- `:1`
abbrev pub is_exactly_one : ℕ → Option ℕ → Bool
is_exactly_one low None = false
is_exactly_one low (Some high) = (low == 1) && (high == 1)

-- two lists of levels as one: what is in the first goes before what is in the second
abbrev pub beside : {X : Type 0} → List (List X) → List (List X) → List (List X)
beside [] ys = ys
beside (x ∷ xs) [] = x ∷ xs
beside (x ∷ xs) (y ∷ ys) = (x ++ y) ∷ beside xs ys

-- one level after another
abbrev pub joined : {X : Type 0} → List (List X) → List X
joined [] = []
joined (x ∷ xs) = x ++ joined xs

abbrev mutual
  -- an alternation or a concatenation of one token and a repetition of exactly one are opened to that token;
  -- the branches of any other alternation stand a level below it, and any other token stands itself
  pub levels : {A : Type 0} → Tree A → List (List (Tree A))
  levels (leaf a l) = (leaf a l ∷ []) ∷ []
  levels (alternation a none) = [] ∷ []
  levels (alternation a (more t none)) = levels t
  levels (alternation a (more t (more u us))) = [] ∷ beside (levels t) (levels_each (more u us))
  levels (concatenation a none) = (concatenation a none ∷ []) ∷ []
  levels (concatenation a (more t none)) = levels t
  levels (concatenation a (more t (more u us))) = (concatenation a (more t (more u us)) ∷ []) ∷ []
  levels (repetition a t low high) =
      if is_exactly_one low high then levels t else (repetition a t low high ∷ []) ∷ []

  pub levels_each : {A : Type 0} → Trees A → List (List (Tree A))
  levels_each none = []
  levels_each (more t ts) = beside (levels t) (levels_each ts)

-- level after level, each from the left
abbrev pub alternatives : {A : Type 0} → Tree A → List (Tree A)
alternatives t = joined (levels t)

-- wherever they stand, the token means a text exactly where one of the tokens does
abbrev pub MeansOneOf : {A : Type 0} → Tree A → List (Tree A) → Type 0
MeansOneOf t ts =
    (before after : Bool) (s : List ℕ) → Means t before after s ↔ MeansSome (trees ts) before after s
