-- The fold of a branch.
use Rattle.std.specs.Prelude.{ℕ, List, Option, map}
use Rattle.wax_fold.specs.{Branches.Branch, Folded.{Folding, branch_term, folded}}

abbrev pub branch_folded : {A T : Type 0} → (Branch A → List ℕ) → Folding A T → Branch A → Option T
branch_folded chosen f b = branch_term chosen f b (map (folded chosen f) b.tokens)
