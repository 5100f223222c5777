-- The profiles of the leaves.
use Rattle.std.proofs.Common.{◌∷◌, ◌≡◌, Bool, [], ap, refl, true}
use Rattle.wax_query.specs.Components.{slashes}
use Rattle.wax_token.specs.Meaning.{LeafMeans, SameText}
use Rattle.wax_token.specs.Syntax.{Leaf, class, literal, one, separator, tree, zero_or_more}
use Rattle.wax_components.specs.{Depth.thinned_leaf, inner.Shapes.{ended, shape}}
use Rattle.wax_components.specs.inner.TreeProfiles.{leaf_profile}
use Rattle.wax_components.proofs.{Exact.Exact, DepthLiterals.{itself, same_text}}
use Rattle.wax_components.proofs.{Singles.{exact_character, exact_single}, TreeWildcards.exact_tree}

pub exact_leaf : (l : Leaf) (before after : Bool)
    → Exact (leaf_profile l before after) (LeafMeans (thinned_leaf l) before after)
exact_leaf (literal insensitive t) before after = exact_single (shape t) (slashes t) (SameText insensitive t)
    (t, itself insensitive t, refl, refl) (same_text insensitive t)
exact_leaf (class negated xs) before after = exact_character
exact_leaf separator before after = exact_single (ended true true) 1 (λ s. s ≡ 47 ∷ [])
    (47 ∷ [], refl, refl, refl) (λ s h. (ap shape h, ap slashes h))
exact_leaf one before after = exact_character
exact_leaf (zero_or_more evaluation) before after = exact_character
exact_leaf (tree rooted) before after = exact_tree before after rooted
