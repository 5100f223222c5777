use Rattle.std.proofs.Common.{◌≡◌, [], ◌∷◌, refl}
use Rattle.std.specs.Prelude.{Option}
use denote.Ref.{Bor}
use Rattle.wax_walk.specs.{declared.entry.TreeEntry.TreeEntry, declared.iterator.EntryResidue.EntryResidue}
use Rattle.wax_walk.specs.{Given.{Facts, Mark, mark_by}, Said.mark_of, Entries.{facts_of, given_residue}}
use Rattle.wax_walk.specs.Says.{SaysByRule}
use Rattle.wax_filter.specs.{Leaving.residue_item, declared.filter.tree_residue.TreeResidue.TreeResidue}
use Rattle.wax_filter.specs.declared.filter.tree_residue.TreeResidue.TheVariants.{Node, Tree}

-- one call decides as the rule does, and later calls will too
pub says_now : {F : Type 0} (step : F → Bor TreeEntry → Option EntryResidue → F → Type 0)
    (rule : Facts → Mark) (f t : F) (e : Bor TreeEntry) (r : Option EntryResidue)
    → SaysByRule step rule f → step f e r t → (mark_of r ≡ rule (facts_of e.now)) × SaysByRule step rule t
says_now step rule f t e r s h =
    ((s ((e, r) ∷ []) t (t, h, refl)).0, λ calls u runs. (s ((e, r) ∷ calls) u (t, h, runs)).1)

-- what a rule decides about an item that was excluded
pub said_residue : {T R : Type 0} (of_entry : T → Facts) (of_residue : R → Facts) (rule : Facts → Mark)
    (x : TreeResidue R) → mark_by rule (given_residue of_entry of_residue x) ≡ rule
    (of_residue (residue_item x))
said_residue of_entry of_residue rule (Node e) = refl
said_residue of_entry of_residue rule (Tree e) = refl
