-- What the rules ensure at the place where the prefix is cut.
use Rattle.std.specs.Prelude.{◌≡◌, ◌≢◌, ℕ, ◌≤◌, Bool, true, false, List, []}
use Rattle.wax_token.specs.{Syntax.{Tree, Trees}, Kinds.is_tree_leaf}
use Rattle.wax_query.specs.Components.{EndsWithSlash}
use Rattle.wax_facts.specs.Situated.{starts_with_leaf, some_starts_in, first_starts_in}
use Rattle.wax_facts.specs.Rest.{begins_with_tree, after}

-- a `**` is reached through first tokens, bodies of repetitions and branches of alternations
abbrev pub starts_with_tree : {A : Type 0} → Tree A → Bool
starts_with_tree t = starts_with_leaf is_tree_leaf t

abbrev pub some_starts_with_tree : {A : Type 0} → Trees A → Bool
some_starts_with_tree ts = some_starts_in is_tree_leaf ts

abbrev pub first_starts_with_tree : {A : Type 0} → Trees A → Bool
first_starts_with_tree ts = first_starts_in is_tree_leaf ts

-- if a token was taken: before a `**`, the prefix isn't empty and doesn't end with `/`; and if no `**`
-- follows the cut, none is reached through what follows it
pub record IsFree {A : Type 0} (ts : Trees A) (n : ℕ) (p : List ℕ) : Type 0 where
  pub at_tree : 1 ≤ n → begins_with_tree (after n ts) ≡ true → (p ≢ []) × (EndsWithSlash p → ⊥)
  pub after_slash : 1 ≤ n → begins_with_tree (after n ts) ≡ false →
      first_starts_with_tree (after n ts) ≡ false
