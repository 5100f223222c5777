-- What is known of the entries that a walk keeps.
use Rattle.std.specs.Prelude.{◌≡◌, List, [], ◌∷◌, Option, Result, IfOk, IfSome, ⊤}
use Rattle.wax_filter.specs.declared.filter.separation.Separation.{Separation}
use Rattle.wax_filter.specs.declared.filter.separation.Separation.TheVariants.{Filtrate, Residue}
use Rattle.wax_filter.specs.Separating.{AtFiltrate}
use Rattle.wax_walk.specs.declared.error.WalkError.{WalkError}

-- what is known holds of the entry of an item, if the item is kept and isn't an error
abbrev pub KnownOutcome : {T : Type 0} → (T → Type 0) → Result T WalkError → Type 0
KnownOutcome known x = IfOk x known

abbrev pub KnownItem : {S T R : Type 0} → (T → Type 0) → Separation S (Result T WalkError) R → Type 0
KnownItem known x = AtFiltrate (KnownOutcome known) x

abbrev pub KnownAnswer : {S T R : Type 0} → (T → Type 0) → Option (Separation S (Result T WalkError) R)
    → Type 0
KnownAnswer known r = IfSome r (KnownItem known)

-- what was known before a change is known after it: `after` implies `before`
abbrev pub StaysKnown : {T : Type 0} → (T → Type 0) → (T → Type 0) → Type 0
StaysKnown {T} before after = (e : T) → after e → before e

-- what was known before a call holds of the entry that the call keeps, if any, and stays known after it
pub record KeepsKnown {S T R : Type 0} (before : T → Type 0)
    (r : Option (Separation S (Result T WalkError) R)) (after : T → Type 0) : Type 0 where
  pub answer : KnownAnswer before r
  pub stays : StaysKnown before after

-- if the second item is kept, the first is kept with the same content
abbrev pub KeepsOnly : {S F R : Type 0} → Separation S F R → Separation S F R → Type 0
KeepsOnly x (Residue z) = ⊤
KeepsOnly (Filtrate y) (Filtrate z) = z.inner ≡ y.inner
KeepsOnly (Residue y) (Filtrate z) = ⊥

-- the content of an item if it is kept, else nothing
abbrev pub kept_of : {S F R : Type 0} → Separation S F R → List F
kept_of (Filtrate x) = x.inner ∷ []
kept_of (Residue x) = []
