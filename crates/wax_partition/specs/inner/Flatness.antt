-- The truth value of `Flat`.
use Rattle.std.specs.Prelude.{Bool, true, ◌&&◌}
use Rattle.wax_facts.specs.Orderly.{is_token}
use Rattle.wax_token.specs.Syntax.{Tree, leaf, alternation, concatenation, repetition, Trees, none, more}

abbrev mutual
  pub is_flat : {A : Type 0} → Tree A → Bool
  is_flat (leaf a l) = true
  is_flat (alternation a ts) = branches_are_flat ts
  is_flat (concatenation a ts) = members_are_flat ts
  is_flat (repetition a t low high) = is_flat t

  pub branches_are_flat : {A : Type 0} → Trees A → Bool
  branches_are_flat none = true
  branches_are_flat (more t ts) = is_flat t && branches_are_flat ts

  pub members_are_flat : {A : Type 0} → Trees A → Bool
  members_are_flat none = true
  members_are_flat (more t ts) = is_token t && (is_flat t && members_are_flat ts)
