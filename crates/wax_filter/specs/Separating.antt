-- What becomes of an item that is kept or excluded.
use Rattle.std.specs.Prelude.{◌≡◌, Option, Some, None, ⊤}
use denote.Ref.{Bor}
use Rattle.wax_filter.specs.declared.filter.product.Product.{Product}
use Rattle.wax_filter.specs.declared.filter.product.kind.ResidueKind.{ResidueKind}
use Rattle.wax_filter.specs.declared.filter.product.kind.FiltrateKind.{FiltrateKind}
use Rattle.wax_filter.specs.declared.filter.separation.Separation.{Separation}
use Rattle.wax_filter.specs.declared.filter.separation.Separation.TheVariants.{Filtrate, Residue}
use Rattle.wax_filter.specs.declared.filter.tree_residue.TreeResidue.{TreeResidue}
use Rattle.wax_filter.specs.declared.filter.tree_residue.TreeResidue.TheVariants.{Node, Tree}
use Rattle.wax_filter.specs.Leaving.{residue_item, tree_of}

-- ---- one item

-- the item, if it is kept
abbrev pub filtrate_of : {S F R : Type 0} → Separation S F R → Option (Product FiltrateKind F)
filtrate_of (Filtrate x) = Some x
filtrate_of (Residue x) = None

-- the fact holds of the item, if it is kept
abbrev pub AtFiltrate : {S F R : Type 0} → (F → Type 0) → Separation S F R → Type 0
AtFiltrate p (Filtrate x) = p x.inner
AtFiltrate p (Residue x) = ⊤

-- the fact holds of the item, if it is excluded
abbrev pub AtResidue : {S F R : Type 0} → (R → Type 0) → Separation S F R → Type 0
AtResidue p (Filtrate x) = ⊤
AtResidue p (Residue x) = p x.inner

-- an item that is kept becomes one that `makes` allows and is excluded; any other stays
abbrev pub LeavesOut : {S F R : Type 0} → (F → R → Type 0) → Separation S F R → Separation S F R → Type 0
LeavesOut {R = R} makes (Filtrate x) r = (y : Product ResidueKind R) × makes x.inner y.inner × (r ≡ Residue y)
LeavesOut {R = R} makes (Residue x) r = r ≡ Residue x

-- an item that is kept becomes one that `makes` allows and is excluded by itself; any other stays
abbrev pub LeavesOutNode : {S F R : Type 0} → (F → R → Type 0) → Separation S F (TreeResidue R)
    → Separation S F (TreeResidue R) → Type 0
LeavesOutNode {R = R} makes = LeavesOut (λ x y. (z : R) × makes x z × (y ≡ Node z))

-- an item that is kept becomes one that `makes` allows; then any item is excluded with everything below it
abbrev pub LeavesOutTree : {S F R : Type 0} → (F → R → Type 0) → Separation S F (TreeResidue R)
    → Separation S F (TreeResidue R) → Type 0
LeavesOutTree {R = R} makes (Filtrate x) r = (y : Product ResidueKind (TreeResidue R)) × (z : R)
    × makes x.inner z × (y.inner ≡ Tree z) × (r ≡ Residue y)
LeavesOutTree {R = R} makes (Residue x) r = (y : Product ResidueKind (TreeResidue R))
    × (y.inner ≡ tree_of x.inner) × (r ≡ Residue y)

-- an item that is kept becomes one that `makes` allows; any other stays
abbrev pub MapsFiltrate : {S T F G R : Type 0} → (F → G → Type 0) → Separation S F R → Separation T G R
    → Type 0
MapsFiltrate {G = G} makes (Filtrate x) r = (y : Product FiltrateKind G) × makes x.inner y.inner
    × (r ≡ Filtrate y)
MapsFiltrate {G = G} makes (Residue x) r = r ≡ Residue x

-- an item that is excluded becomes one that `makes` allows; any other stays
abbrev pub MapsLeftOut : {S T F R Q : Type 0} → (R → Q → Type 0) → Separation S F R → Separation T F Q
    → Type 0
MapsLeftOut {Q = Q} makes (Filtrate x) r = r ≡ Filtrate x
MapsLeftOut {Q = Q} makes (Residue x) r = (y : Product ResidueKind Q) × makes x.inner y.inner
    × (r ≡ Residue y)

-- the entry of an item, if kept and excluded items are entries
abbrev pub separated_entry : {S A : Type 0} → Separation S A (TreeResidue A) → A
separated_entry (Filtrate x) = x.inner
separated_entry (Residue x) = residue_item x.inner

-- a reference to the item, kept or excluded as the item is
abbrev pub RefersTo : {S T F R : Type 0} → Separation S F R → Separation T (Bor F) (Bor R) → Type 0
RefersTo (Filtrate x) (Filtrate y) = y.inner.now ≡ x.inner
RefersTo (Residue x) (Residue y) = y.inner.now ≡ x.inner
RefersTo _ _ = ⊥

-- ---- cancelling

-- what is below is cancelled, unless it was excluded before
abbrev pub CancelsBelow : {I R : Type 0} → (I → I → Type 0) → TreeResidue R → I → I → Type 0
CancelsBelow cancels (Node x) i j = cancels i j
CancelsBelow cancels (Tree x) i j = j ≡ i

abbrev pub CancelsTree : {I S F R : Type 0} → (I → I → Type 0) → Separation S F (TreeResidue R) → I → I
    → Type 0
CancelsTree cancels (Filtrate x) i j = cancels i j
CancelsTree cancels (Residue x) i j = CancelsBelow cancels x.inner i j

-- ---- decided by the entry

-- the result for an entry, if there is one
abbrev pub Answers : {A B : Type 0} → (A → B → Type 0) → Option A → Option B → Type 0
Answers {B = B} says (Some x) r = (y : B) × says x y × (r ≡ Some y)
Answers {B = B} says None r = r ≡ None

-- what is decided about an entry, if there is one
abbrev pub SaysOf : {A B : Type 0} → (A → Option B → Type 0) → Option A → Option B → Type 0
SaysOf says (Some x) r = says x r
SaysOf says None r = r ≡ None

-- the item stays, or is excluded by itself or with everything below it, as was decided
abbrev pub SeparatesBy : {S F R : Type 0} → (F → R → Type 0) → Option (TreeResidue (Unit {0}))
    → Separation S F (TreeResidue R) → Separation S F (TreeResidue R) → Type 0
SeparatesBy makes None x r = r ≡ x
SeparatesBy makes (Some (Node u)) x r = LeavesOutNode makes x r
SeparatesBy makes (Some (Tree u)) x r = LeavesOutTree makes x r

-- what is below is cancelled, if it was decided to exclude everything below
abbrev pub CancelsBy : {I S F R : Type 0} → (I → I → Type 0) → Option (TreeResidue (Unit {0}))
    → Separation S F (TreeResidue R) → I → I → Type 0
CancelsBy cancels None x i j = j ≡ i
CancelsBy cancels (Some (Node u)) x i j = j ≡ i
CancelsBy cancels (Some (Tree u)) x i j = CancelsTree cancels x i j
