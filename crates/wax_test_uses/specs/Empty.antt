-- What an empty directory neither shows nor holds.
use Rattle.std.proofs.Common.{subst}
use Rattle.std.specs.Prelude.{◌≡◌, ◌++◌, List, [], ◌∷◌, ⊤}
use Rattle.wax.specs.Walks.{Items, Shown, a_folder}
use Rattle.wax_directory.specs.Shown.{missing}

abbrev IsFolder : Shown → Type 0
IsFolder (a_folder l) = ⊤
IsFolder s = ⊥

pub no_folder : (l : Items) → a_folder l ≡ missing → ⊥
no_folder l e = subst IsFolder e tt

abbrev HasElement : {A : Type 0} → List A → Type 0
HasElement [] = ⊥
HasElement (x ∷ xs) = ⊤

pub none_last : {A : Type 0} (xs : List A) (x : A) → xs ++ x ∷ [] ≡ [] → ⊥
none_last [] x e = subst HasElement e tt
none_last (y ∷ xs) x e = subst HasElement e tt
