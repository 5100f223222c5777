-- Whether a tree means the text of something below a folder.
use Rattle.std.specs.{Prelude.{◌≡◌, ◌↔◌, ℕ, Bool, IsTrue, true, false, List, Option}, Str.all_scalars}
use Rattle.wax_match.proofs.Below.{below_decided}
use Rattle.wax_query.specs.Below.{IsBelow, IsBelowWithin}
use Rattle.wax_token.specs.{Decided.{holds, holds_truly}, Meaning.Means, Syntax.Tree}

-- the tree means the text of something below the folder, one that consists of characters, with nothing around
-- it
abbrev pub MeansBelow : {A : Type 0} → Tree A → List ℕ → Type 0
MeansBelow t folder = (s : List ℕ) × IsBelow folder s × (all_scalars s ≡ true) × Means t false false s

-- the tree means the text of something at most so many names below, if there is a limit
abbrev pub MeansWithin : {A : Type 0} → Tree A → Option ℕ → List ℕ → Type 0
MeansWithin t most folder = (s : List ℕ) × IsBelowWithin most folder s × (all_scalars s ≡ true)
    × Means t false false s

-- as a truth value
pub goes_test : {A : Type 0} → Tree A → Option ℕ → List ℕ → Bool
goes_test t most folder = holds (below_decided t most folder)

pub goes_tested : {A : Type 0} (t : Tree A) (most : Option ℕ) (folder : List ℕ)
    → IsTrue (goes_test t most folder) ↔ MeansWithin t most folder
unfolding goes_test
goes_tested t most folder = holds_truly (below_decided t most folder)
