-- The profile of a tree is exact.
use Rattle.std.proofs.Common.{Bool, true}
use Rattle.wax_token.specs.Meaning.{Means, MeansEach, MeansSome}
use Rattle.wax_token.specs.Syntax.{Tree, Trees, alternation, concatenation, leaf, more, none, repetition}
use Rattle.wax_components.specs.Depth.{thinned, thinned_each}
use Rattle.wax_components.specs.inner.TreeProfiles.{each_profile, some_profile, tree_profile}
use Rattle.wax_components.proofs.Exact.{Exact, exact_concatenated, exact_empty_text, exact_no_text}
use Rattle.wax_components.proofs.{Exact.exact_union, Leaves.exact_leaf, Repetitions.exact_repeated}

mutual
  pub exact_tree_profile : {A : Type 0} (t : Tree A) (before after : Bool)
      → Exact (tree_profile t before after) (Means (thinned t) before after)
  exact_tree_profile (leaf a l) before after = exact_leaf l before after
  exact_tree_profile (alternation a ts) before after = exact_some_profile ts before after
  exact_tree_profile (concatenation a ts) before after = exact_each_profile ts before after
  exact_tree_profile (repetition a t low high) before after =
      exact_repeated (Means (thinned t)) low high before after (λ b f. exact_tree_profile t b f)

  exact_some_profile : {A : Type 0} (ts : Trees A) (before after : Bool)
      → Exact (some_profile ts before after) (MeansSome (thinned_each ts) before after)
  exact_some_profile none before after = exact_no_text
  exact_some_profile (more t ts) before after =
      exact_union (exact_tree_profile t before after) (exact_some_profile ts before after)

  exact_each_profile : {A : Type 0} (ts : Trees A) (before after : Bool)
      → Exact (each_profile ts before after) (MeansEach (thinned_each ts) before after)
  exact_each_profile none before after = exact_empty_text
  exact_each_profile (more t none) before after = exact_tree_profile t before after
  exact_each_profile (more t (more u us)) before after =
      exact_concatenated (exact_tree_profile t before true) (exact_each_profile (more u us) true after)
