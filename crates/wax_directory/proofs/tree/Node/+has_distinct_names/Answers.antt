use Rattle.std.proofs.Common.{◌≡◌, ◌<◌, ℕ, List, Some, slice_get, subst, sym, ◌∙◌, ap, arith, MatchBool}
use Rattle.wax_directory.specs.{declared.tree.Node.Node, declared.tree.TreeItem.TreeItem, Names.are_distinct}
use Rattle.wax_directory.specs.Nodes.{HasDistinctNames, HasDuplicateName, names_of, held, entry_node}
use Rattle.wax_directory.proofs.Finding.{other_distinct, own_duplicate, below_duplicate, folder_held}
use Rattle.wax_directory.proofs.Finding.{folder_distinct, entry_at, no_entry_at, entry_within, one_more}
use Rattle.wax_directory.proofs.Finding.{same_entry, not_both}
use Rattle.wax_directory.proofs.tree.Node.+has_distinct_names.Goals as goal
use Rattle.wax_directory.proofs.tree.Node.+has_distinct_names.Goals.{
  in-Entry+in_ok-has_distinct_names+else-not-branch-2,
}
use Rattle.wax_directory.proofs.tree.Node.+has_distinct_names.Goals.{in_default-item}

pub returns-in_default : goal.returns-in_default
returns-in_default t c = other_distinct c.args.self.now c.in_default.not-Folder

pub returns-then-not-branch : goal.returns-then-not-branch
returns-then-not-branch t c =
    own_duplicate c.args.self.now c.in-Folder.items.items
    (folder_held c.args.self.now c.in-Folder.items c.in-Folder.is)
    (ap (λ l. are_distinct (names_of l)) (sym c.as_slice.ensures.value) ∙ sym
    c.in_ok-hold_distinct_names.ensures ∙ c.if-not-branch.true)

pub returns-then-not-branch-2 : goal.returns-then-not-branch-2
returns-then-not-branch-2 t c =
    let items : List TreeItem = c.deref-item-items.result.now in
    let holds : held c.args.self.now ≡ Some items = folder_held c.args.self.now c.in-Folder.items
    c.in-Folder.is ∙ ap Some (sym c.deref-item-items.ensures.value) in
    let twice : HasDuplicateName c.in-Entry.node =
    subst (λ b. MatchBool b (HasDistinctNames c.in-Entry.node) (HasDuplicateName c.in-Entry.node))
    c.if-not-branch-2.true c.in_ok-has_distinct_names.ensures in
    below_duplicate c.args.self.now c.in-Entry.node items c.loop-item.item-index holds
    (entry_at items c.loop-item.item-index c.item-item.result c.in-Entry.field-0 c.in-Entry.node
    c.loop-item-test.true c.item-item.is c.in-Entry.is) twice

pub loop-item-preserved : goal.loop-item-preserved
loop-item-preserved t c =
    let items : List TreeItem = c.deref-item-items.result.now in
    let P : ℕ → Type 0 = λ p. (m : Node) → entry_node (slice_get items p) ≡ Some m → HasDistinctNames m in
    let here : P c.loop-item.item-index =
    elim c.match-item.branch [
      | in-Entry+in_ok-has_distinct_names+else-not-branch-2 w ↦ λ m e.
          let distinct : HasDistinctNames w.in-Entry.node =
          subst (λ b. MatchBool b (HasDistinctNames w.in-Entry.node) (HasDuplicateName w.in-Entry.node))
          w.if-not-branch-2.false w.in_ok-has_distinct_names.ensures in
          subst HasDistinctNames
          (same_entry (entry_node (slice_get items c.loop-item.item-index)) w.in-Entry.node m
          (entry_at items c.loop-item.item-index c.item-item.result w.in-Entry.field-0 w.in-Entry.node
          c.loop-item-test.true c.item-item.is w.in-Entry.is) e) distinct
      | in_default-item w ↦ λ m e. absurd
          (not_both (entry_node (slice_get items c.loop-item.item-index)) m
          (no_entry_at items c.loop-item.item-index c.item-item.result c.loop-item-test.true c.item-item.is
          w.in_default-item.not-Entry) e)
    ] in
    λ place n lt e. one_more P c.loop-item.item-index (λ p h m q. c.loop-item.invariant p m h q) here place lt
    n e

pub returns : goal.returns
returns t c =
    let items : List TreeItem = c.deref-item-items.result.now in
    let holds : held c.args.self.now ≡ Some items = folder_held c.args.self.now c.in-Folder.items
    c.in-Folder.is ∙ ap Some (sym c.deref-item-items.ensures.value) in
    folder_distinct c.args.self.now items holds
    (ap (λ l. are_distinct (names_of l)) (c.deref-item-items.ensures.value ∙ sym c.as_slice.ensures.value) ∙
    sym c.in_ok-hold_distinct_names.ensures ∙ c.if-not-branch.false)
    (λ place m e. let lt : place < c.loop-item.item-index =
    omega (arith, c.loop-item-test.false, entry_within items place m e) in c.loop-item.invariant place m
    lt e)
