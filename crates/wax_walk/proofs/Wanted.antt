-- The entries that are kept are those of the whole walk that the filters want.
use Rattle.std.proofs.Common.{◌≡◌, Bool, cond, []}
use Rattle.std.specs.Prelude.{filter}
use Rattle.wax_walk.specs.Forest.{Forest, nothing, preorder, filtered}

-- nothing that lies below is wanted
abbrev pub NoneBelow : {A : Type 0} → (A → Bool) → Forest A → Type 0
NoneBelow wanted f = filter wanted (preorder f) ≡ []

abbrev kept_below : {A : Type 0} → (A → Bool) → Bool → Forest A → Forest A
kept_below cut b below = cond b nothing (filtered (λ x. x) cut below)
