-- The steps of a walk's `next`.
use denote.Ref.{Bor}
use Rattle.std.specs.Prelude.{◌≡◌, ℕ, List, [], ◌∷◌, Option, Some, None, IsSome}
use Rattle.wax_token.specs.Syntax.{Tree}
use Rattle.wax_fold.specs.{declared.walk.entry.WalkEntry.WalkEntry, Branches.Branch}
use Rattle.wax_fold.specs.Walking.{Walking, walk_entry, roots}

-- the tokens below the current one are put at the end
abbrev pub gone_below : {A : Type 0} → (Branch A → List ℕ) → Walking A → Walking A
gone_below chosen w = record { rest = roots chosen w; current = None }

-- there was a current token, and nothing is to come
abbrev pub StepsToEnd : {A : Type 0} → Walking A → Walking A → Type 0
StepsToEnd old new = IsSome old.current × (new.rest ≡ []) × (new.current ≡ None)

-- the first of those to come is taken
abbrev pub TakesFirst : {A : Type 0} → Walking A → Option (WalkEntry (Bor (Tree A))) → Walking A → Type 0
TakesFirst old None new = (old.rest ≡ []) × (new ≡ old)
TakesFirst old (Some e) new = (old.rest ≡ walk_entry e ∷ new.rest) × (new.current ≡ old.current)

-- and is the current one
abbrev pub GivesEntry : {A : Type 0} → Walking A → Option (WalkEntry (Bor (Tree A))) → Walking A → Type 0
GivesEntry old None new = (old.rest ≡ []) × (new ≡ old)
GivesEntry old (Some e) new = (old.rest ≡ walk_entry e ∷ new.rest) × (new.current ≡ Some (walk_entry e))
