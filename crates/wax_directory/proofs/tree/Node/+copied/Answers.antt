use Rattle.std.proofs.Common.{refl, ◌∙◌, subst}
use Rattle.wax_directory.specs.declared.tree.Node.TheViews.{out-TreeItem}
use Rattle.wax_directory.proofs.Copying.{SameLayer, SameItems, same_step, same_all, same_entry, same_failed}
use Rattle.wax_directory.proofs.Copying.{same_not_text, folder_copy}
use Rattle.wax_directory.proofs.tree.Node.+copied.Goals.{in-Entry+in_ok-name-in-Entry+in_ok-copied-in-Entry}
use Rattle.wax_directory.proofs.tree.Node.+copied.Goals.{in-Failed, in-NotText}
use Rattle.wax_directory.specs.declared.tree.Node.TheViews as V
use Rattle.wax_directory.proofs.tree.Node.+copied.Goals as goal

pub loop-item-preserved : goal.loop-item-preserved
loop-item-preserved t c =
    let same : SameLayer (out-TreeItem c.item-item.result) (out-TreeItem c.match-item.copy) =
    elim c.match-item.branch [
      | in-Entry+in_ok-name-in-Entry+in_ok-copied-in-Entry w ↦ same_entry c.item-item.result
          c.match-item.copy w.in-Entry.name w.in_ok-name-in-Entry.name w.in-Entry.node
          w.in_ok-copied-in-Entry.field-0 w.in-Entry.is w.copy-is
          (w.in_ok-name-in-Entry.ensures.ok ∙ w.as_str.ensures.value) w.in_ok-copied-in-Entry.ensures
      | in-Failed w ↦ same_failed c.item-item.result c.match-item.copy w.in-Failed.is w.copy-is
      | in-NotText w ↦ same_not_text c.item-item.result c.match-item.copy w.in-NotText.is w.copy-is
    ] in
    same_step c.deref-item-items.result.now c.loop-item.copies.items c.push.new.self.items
    c.loop-item.item-index c.item-item.result c.match-item.copy c.loop-item-test.true c.item-item.is
    c.loop-item.invariant same c.in_ok-push.ensures.items

pub returns : goal.returns
returns t c =
    folder_copy c.args.self.now (V.Folder c.loop-item.copies) c.in-Folder.items c.loop-item.copies
    c.in-Folder.is refl
    (subst (λ items. SameItems items c.loop-item.copies.items) c.deref-item-items.ensures.value
    (same_all c.deref-item-items.result.now c.loop-item.copies.items c.loop-item.item-index
    c.loop-item-test.false c.loop-item.invariant))
