-- Which tokens of a branch are gone through: all, or those alone with which its texts begin or end.
use Rattle.std.specs.Prelude.{ℕ, ◌-◌, suc, List, [], ◌∷◌, map, length}
use Rattle.wax_fold.specs.declared.walk.branch.BranchFold.{BranchFold}
use Rattle.wax_fold.specs.declared.walk.branch.BranchFold.TheVariants.{Alternation, Concatenation, Repetition}
use Rattle.wax_fold.specs.Branches.{Branch}

-- the places of a list's items
abbrev pub places : {X : Type 0} → List X → List ℕ
places [] = []
places (x ∷ xs) = 0 ∷ map suc (places xs)

abbrev pub forward_chosen : {A : Type 0} → Branch A → List ℕ
forward_chosen b = places b.tokens

-- the first token alone, where texts of its tokens follow each other
abbrev pub starting_of : {X : Type 0} → BranchFold → List X → List ℕ
starting_of Alternation xs = places xs
starting_of Concatenation xs = 0 ∷ []
starting_of (Repetition low high) xs = 0 ∷ []

abbrev pub starting_chosen : {A : Type 0} → Branch A → List ℕ
starting_chosen b = starting_of b.kind b.tokens

-- the last token alone
abbrev pub ending_of : {X : Type 0} → BranchFold → List X → List ℕ
ending_of Alternation xs = places xs
ending_of Concatenation xs = (length xs - 1) ∷ []
ending_of (Repetition low high) xs = (length xs - 1) ∷ []

abbrev pub ending_chosen : {A : Type 0} → Branch A → List ℕ
ending_chosen b = ending_of b.kind b.tokens
