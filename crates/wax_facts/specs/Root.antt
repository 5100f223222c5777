-- Whether the texts of a tree begin with `/`.
use Rattle.std.specs.Prelude.{true, false}
use Rattle.wax_token.specs.Syntax.{Leaf, literal, class, separator, one, zero_or_more, tree, Tree, leaf}
use Rattle.wax_token.specs.Syntax.{alternation, concatenation, repetition, Trees, none, more}
use Rattle.wax_query.specs.declared.query.when.When.{When}
use Rattle.wax_query.specs.{declared.query.when.When.TheVariants.{Never, Always}, Whens.certainty}
use Rattle.wax_facts.specs.Optional.{optional}

abbrev pub leaf_root : Leaf → When
leaf_root (literal insensitive t) = Never
leaf_root (class negated xs) = Never
leaf_root separator = Always
leaf_root one = Never
leaf_root (zero_or_more evaluation) = Never
leaf_root (tree true) = Always
leaf_root (tree false) = Never

abbrev mutual
  pub root : {A : Type 0} → Tree A → When
  root (leaf a l) = leaf_root l
  root (alternation a ts) = root_some ts
  root (concatenation a ts) = root_first ts
  root (repetition a t low high) = optional low (root t)

  pub root_some : {A : Type 0} → Trees A → When
  root_some none = Never
  root_some (more t none) = root t
  root_some (more t (more u us)) = certainty (root t) (root_some (more u us))

  pub root_first : {A : Type 0} → Trees A → When
  root_first none = Never
  root_first (more t ts) = root t
