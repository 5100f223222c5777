-- Tree wildcards with a `/` before them.
use Rattle.std.specs.Prelude.{Bool, false}
use Rattle.wax_token.specs.Syntax.{Leaf, literal, class, separator, one, zero_or_more, tree, Tree}
use Rattle.wax_token.specs.Kinds.{is_such}

abbrev pub is_rooted_tree_leaf : Leaf → Bool
is_rooted_tree_leaf (literal insensitive t) = false
is_rooted_tree_leaf (class negated xs) = false
is_rooted_tree_leaf separator = false
is_rooted_tree_leaf one = false
is_rooted_tree_leaf (zero_or_more evaluation) = false
is_rooted_tree_leaf (tree rooted) = rooted

abbrev pub is_rooted_tree : {A : Type 0} → Tree A → Bool
is_rooted_tree t = is_such is_rooted_tree_leaf t
