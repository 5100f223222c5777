-- Top-level tokens as a list.
use Rattle.std.proofs.Common.{◌≡◌, List, [], ◌∷◌, refl, ap}
use Rattle.wax_token.specs.{Syntax.Tree, Words.{trees, listed}}

pub listed_trees : {A : Type 0} (ts : List (Tree A)) → listed (trees ts) ≡ ts
listed_trees [] = refl
listed_trees (t ∷ ts) = ap (λ z. t ∷ z) (listed_trees ts)
