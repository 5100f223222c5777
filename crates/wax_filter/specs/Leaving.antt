-- How much is excluded with an item.
use Rattle.std.specs.Prelude.{◌≡◌}
use denote.Ref.{Bor}
use Rattle.wax_filter.specs.declared.filter.tree_residue.TreeResidue.{TreeResidue}
use Rattle.wax_filter.specs.declared.filter.tree_residue.TreeResidue.TheVariants.{Node, Tree}

-- the item that is excluded
abbrev pub residue_item : {A : Type 0} → TreeResidue A → A
residue_item (Node x) = x
residue_item (Tree x) = x

-- the item behind the reference, in the same variant
abbrev pub shows_residue : {A : Type 0} → TreeResidue (Bor A) → TreeResidue A
shows_residue (Node x) = Node x.now
shows_residue (Tree x) = Tree x.now

-- the item, excluded with everything below it
abbrev pub tree_of : {A : Type 0} → TreeResidue A → TreeResidue A
tree_of x = Tree (residue_item x)

-- the item is mapped, and the variant stays
abbrev pub MapsResidue : {A B : Type 0} → (A → B → Type 0) → TreeResidue A → TreeResidue B → Type 0
MapsResidue {B = B} maps (Node x) r = (y : B) × maps x y × (r ≡ Node y)
MapsResidue {B = B} maps (Tree x) r = (y : B) × maps x y × (r ≡ Tree y)
