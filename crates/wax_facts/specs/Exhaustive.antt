-- Whether a tree matches everything below the paths that it matches.
use Rattle.wax_token.specs.Syntax.{Leaf, literal, class, separator, one, zero_or_more, tree, Tree, leaf}
use Rattle.wax_token.specs.Syntax.{alternation, concatenation, repetition, Trees, none, more}
use Rattle.wax_query.specs.declared.query.when.When.{When}
use Rattle.wax_query.specs.{declared.query.when.When.TheVariants.{Never, Always}, Whens.certainty}
use Rattle.wax_facts.specs.Optional.{optional}

abbrev pub leaf_exhaustive : Leaf → When
leaf_exhaustive (literal insensitive t) = Never
leaf_exhaustive (class negated xs) = Never
leaf_exhaustive separator = Never
leaf_exhaustive one = Never
leaf_exhaustive (zero_or_more evaluation) = Never
leaf_exhaustive (tree rooted) = Always

abbrev mutual
  pub exhaustive : {A : Type 0} → Tree A → When
  exhaustive (leaf a l) = leaf_exhaustive l
  exhaustive (alternation a ts) = exhaustive_some ts
  exhaustive (concatenation a ts) = exhaustive_last ts
  exhaustive (repetition a t low high) = optional low (exhaustive t)

  pub exhaustive_some : {A : Type 0} → Trees A → When
  exhaustive_some none = Never
  exhaustive_some (more t none) = exhaustive t
  exhaustive_some (more t (more u us)) = certainty (exhaustive t) (exhaustive_some (more u us))

  pub exhaustive_last : {A : Type 0} → Trees A → When
  exhaustive_last none = Never
  exhaustive_last (more t none) = exhaustive t
  exhaustive_last (more t (more u us)) = exhaustive_last (more u us)
