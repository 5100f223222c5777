-- Branches whose tokens are being gone through, from the outermost on. No part of any fold's definition.
use Rattle.std.specs.{Prelude.{ℕ, ◌+◌, List, [], ◌∷◌, ◌++◌, Option, map}, List.flat_map}
use Rattle.wax_token.specs.Syntax.{Tree}
use Rattle.wax_fold.specs.Folded.{listed_term}

-- what a branch has, given what its tokens have; its tokens that are still to come; and what the others have
pub record Open (A T : Type 0) : Type 0 where
  pub close : List T → Option T
  pub rest : List (Tree A)
  pub done : List T

abbrev pub with_one : {A T : Type 0} → Open A T → Option T → Open A T
with_one o x = record { close = o.close; rest = o.rest; done = o.done ++ listed_term x }

module _ {A T : Type 0} (result : Tree A → Option T) where
  -- what those of the tokens have that have something
  abbrev pub results : List (Tree A) → List T
  results ts = flat_map (λ t. listed_term (result t)) ts

  -- what the branch has, once all its tokens have been gone through
  abbrev pub closed : Open A T → Option T
  closed o = o.close (o.done ++ results o.rest)

  -- what the outermost branch has, where a token of the innermost has this
  abbrev pub closed_all : List (Open A T) → Option T → Option T
  closed_all [] x = x
  closed_all (o ∷ os) x = closed (with_one o (closed_all os x))

abbrev pub total : List ℕ → ℕ
total [] = 0
total (n ∷ ns) = n + total ns

-- how many steps are left, where so many are taken in each token
module _ {A T : Type 0} (count : Tree A → ℕ) where
  abbrev pub steps_in : Open A T → ℕ
  steps_in o = total (map count o.rest) + 1

  abbrev pub steps_left : List (Open A T) → ℕ
  steps_left os = total (map steps_in os)
