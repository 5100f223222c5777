-- Tokens without their annotations.
use Rattle.std.specs.Prelude.{⊤}
use Rattle.wax_token.specs.Syntax.{Tree, leaf, alternation, concatenation, repetition, Trees, none, more}
use Rattle.wax_fold.specs.{Branches.composed, Mapped.Mapping}

abbrev mutual
  pub bare : {A : Type 0} → Tree A → Tree ⊤
  bare (leaf a l) = leaf tt l
  bare (alternation a ts) = alternation tt (bare_each ts)
  bare (concatenation a ts) = concatenation tt (bare_each ts)
  bare (repetition a t low high) = repetition tt (bare t) low high

  pub bare_each : {A : Type 0} → Trees A → Trees ⊤
  bare_each none = none
  bare_each (more t ts) = more (bare t) (bare_each ts)

-- the map that drops them
abbrev pub baring : {A : Type 0} → Mapping A (Tree ⊤)
baring = record { fold = λ a kind ts. composed kind ts tt; map = λ a l. leaf tt l }
