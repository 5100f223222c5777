-- What a filter yields, call by call.
use Rattle.std.specs.Prelude.{◌≡◌, ◌⊎◌, Option, Some, None, List, [], ◌∷◌}
use denote.Ref.{Bor, MutBor}
use Rattle.wax_filter.specs.declared.filter.cancel.WalkCancellation.{WalkCancellation}
use Rattle.wax_filter.specs.declared.filter.product.Product.{Product}
use Rattle.wax_filter.specs.declared.filter.product.kind.ResidueKind.{ResidueKind}
use Rattle.wax_filter.specs.declared.filter.separation.Separation.{Separation}
use Rattle.wax_filter.specs.declared.filter.separation.Separation.TheVariants.{Filtrate, Residue}
use Rattle.wax_filter.specs.declared.filter.tree_residue.TreeResidue.{TreeResidue}
use Rattle.wax_filter.specs.Separating.{SeparatesBy, CancelsBy}

-- r is the item that is kept, or `None` at the end
abbrev pub Keeps : {G F R : Type 0} → Option (Separation G F R) → Option F → Type 0
Keeps None r = r ≡ None
Keeps (Some (Filtrate x)) r = r ≡ Some x.inner
Keeps (Some (Residue x)) r = ⊥

module _ {S G F R : Type 0} (feeds : S → Option (Separation G F R) → S → Type 0) where
  -- calls that yield these excluded items, one after another, lead from the state s to the state t
  abbrev pub PassesOver : S → List (Product ResidueKind R) → S → Type 0
  PassesOver s [] t = s ≡ t
  PassesOver s (x ∷ xs) t = (u : S) × feeds s (Some (Residue x)) u × PassesOver u xs t

  -- r is the first item that is kept, after any that are excluded, or `None` at the end
  abbrev pub NextFiltrate : S → Option F → S → Type 0
  NextFiltrate s r t = (xs : List (Product ResidueKind R)) × (u : S) × (o : Option (Separation G F R))
      × PassesOver s xs u × feeds u o t × Keeps o r

module _ {L A B : Type 0} (turns : L → A → B → L → Type 0) where
  -- the result of a layer for a result of the walk below it; a layer is a walk and a closure
  abbrev pub Turns : L → Option A → Option B → L → Type 0
  Turns s None r t = (r ≡ None) × (t ≡ s)
  Turns s (Some x) r t = (y : B) × turns s x y t × (r ≡ Some y)

module _ {I F A B : Type 0} (feeds : I → Option A → I → Type 0) (turns : I × F → A → B → I × F → Type 0) where
  -- a call of a layer: it calls the walk below it, and turns its result
  abbrev pub Feeds : I × F → Option B → I × F → Type 0
  Feeds s r t = (o : Option A) × (u : I) × feeds s.0 o u × Turns turns (u, s.1) o r t

-- what a closure returns for an entry, if there is one
abbrev pub ReturnsFor : {F A B : Type 0} → (F → Bor A → Option B → F → Type 0) → F → Option A → Option B → F
    → Type 0
ReturnsFor {A = A} step f (Some x) r g = (b : Bor A) × (b.now ≡ x) × step f b r g
ReturnsFor step f None r g = (r ≡ None) × (g ≡ f)

-- of a layer that filters entries: a call of its closure, the entry of an item, what a kept item becomes when
-- it is excluded, and cancelling
pub record EntryLayer (I E G F R A : Type 0) : Type 1 where
  pub step : E → Bor A → Option (TreeResidue (Unit {0})) → E → Type 0
  pub shown : Separation G F (TreeResidue R) → Option A
  pub makes : F → R → Type 0
  pub cancels : I → I → Type 0

abbrev pub entry_layer : {I E G F R A : Type 0} → (E → Bor A → Option (TreeResidue (Unit {0})) → E → Type 0)
    → (Separation G F (TreeResidue R) → Option A) → (F → R → Type 0) → (I → I → Type 0)
    → EntryLayer I E G F R A
entry_layer step shown makes cancels = record { step = step; shown = shown; makes = makes; cancels = cancels }

-- an item is kept or excluded, and what is below it is cancelled, as the closure decides for its entry
abbrev pub ByEntry : {I E G F R A : Type 0} → EntryLayer I E G F R A → I × E
    → Separation G F (TreeResidue R) → Separation G F (TreeResidue R) → I × E → Type 0
ByEntry by s x y t = (said : Option (TreeResidue (Unit {0}))) × ReturnsFor by.step s.1 (by.shown x) said t.1
    × SeparatesBy by.makes said x y × CancelsBy by.cancels said x s.0 t.0

-- the walk is unchanged, or cancelled
abbrev pub AtMostCancels : {I : Type 0} → (I → I → Type 0) → I → I → Type 0
AtMostCancels cancels u j = (j ≡ u) ⊎ cancels u j

-- a closure that borrows a walk leaves it unchanged or cancels it, and does nothing else to it
abbrev pub OnlyCancels : {I E A B : Type 0} → (E → MutBor (WalkCancellation I) → A → B
    → MutBor (WalkCancellation I) → E → Type 0) → (I → I → Type 0) → Type 0
OnlyCancels {I = I} {E = E} {A = A} {B = B} step cancels =
    (f : E) (w : MutBor (WalkCancellation I)) (x : A) (y : B) (v : MutBor (WalkCancellation I)) (g : E)
    → step f w x y v g → (v.now.0.ghost_name ≡ w.now.0.ghost_name)
    × AtMostCancels cancels w.now.0.now v.now.0.now

-- an item becomes what the closure returns for it, and the walk is unchanged, or cancelled
abbrev pub ByItem : {I E A B : Type 0} → (E → MutBor (WalkCancellation I) → A → B
    → MutBor (WalkCancellation I) → E → Type 0)
    → (I → I → Type 0) → I × E → A → B → I × E → Type 0
ByItem {I = I} step cancels s x y t = (w : MutBor (WalkCancellation I)) × (v : MutBor (WalkCancellation I))
    × (w.now.0.now ≡ s.0) × step s.1 w x y v t.1 × (v.now.0.now ≡ t.0) × AtMostCancels cancels s.0 t.0

-- the result of the iterator, as an item that is kept
abbrev pub KeepsAll : {I G F R : Type 0} → (I → Option F → I → Type 0) → I → Option (Separation G F R) → I
    → Type 0
KeepsAll gives s None t = gives s None t
KeepsAll gives s (Some (Filtrate x)) t = gives s (Some x.inner) t
KeepsAll gives s (Some (Residue x)) t = ⊥
