-- The sub-globs of a glob, by level.
use Rattle.std.specs.{Prelude.{ℕ, zero, suc, List, [], ◌∷◌, ◌++◌}, List.flat_map}
use Rattle.wax_token.specs.Syntax.{Tree, leaf, alternation, concatenation, repetition, tree_size}
use Rattle.wax_token.specs.Words.{listed}
use Rattle.wax_components.specs.{TopLevel.tokens_of, Parts.{components, with_text}}

-- the sub-globs that a top-level token is or holds
abbrev pub sub_globs_in : {A : Type 0} → Tree A → List (Tree A)
sub_globs_in (leaf a l) = []
sub_globs_in (alternation a ts) = listed ts
sub_globs_in (concatenation a ts) = concatenation a ts ∷ []
sub_globs_in (repetition a t low high) = t ∷ []

-- the sub-globs of a glob, from left to right
abbrev pub sub_globs : {A : Type 0} → Tree A → List (Tree A)
sub_globs t = flat_map sub_globs_in (tokens_of t)

-- the sub-globs of sub-globs so many levels down, from left to right
abbrev pub globs_at : {A : Type 0} → ℕ → Tree A → List (Tree A)
globs_at zero t = t ∷ []
globs_at (suc n) t = flat_map (globs_at n) (sub_globs t)

-- those down to a level, level after level
abbrev pub globs_to : {A : Type 0} → ℕ → Tree A → List (Tree A)
globs_to zero t = t ∷ []
globs_to (suc n) t = globs_to n t ++ globs_at (suc n) t

-- the components of literals alone of a glob, with their texts
abbrev pub literals_in : {A : Type 0} → Tree A → List (List (Tree A) × List ℕ)
literals_in t = flat_map with_text (components t)

-- those of a glob and all its sub-globs, level after level; a tree has no more levels than its size and one
abbrev pub literals : {A : Type 0} → Tree A → List (List (Tree A) × List ℕ)
literals t = flat_map literals_in (globs_to (tree_size t) t)
