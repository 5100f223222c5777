-- Cursors that are independent of one another.
use Rattle.std.proofs.Common.{List, [], ◌∷◌, ◌++◌, Option, Result, Ok, Err}
use Rattle.std.specs.{Prelude.◌↔◌, List.AllZip}
use Rattle.wax_query.specs.declared.diagnostics.NoMemory.{NoMemory}
use Rattle.wax_directory.specs.{declared.directory.ListItem.ListItem, declared.tree.Node.Node}
use Rattle.wax_directory.specs.{declared.tree.TreeCursor.TreeCursor, Answers.NextIs}
use Rattle.wax_directory.specs.{Independent.{AreIndependent, Has, NextLeavesOthers}, Law.{Law, HoldsLast}}
use Rattle.wax_directory.specs.{Shown.Items, Trees.{HaveEach, tree_law}}

module _ (working root : Node) where
  each_apart : (cursors : List TreeCursor) (ls : List Items) → HaveEach working root cursors ls
      ↔ AllZip (λ cursor l. HaveEach working root (cursor ∷ []) (l ∷ [])) cursors ls
  each_apart [] [] = ((λ h. tt), (λ h. tt))
  each_apart [] (l ∷ ls) = ((λ h. absurd h), (λ h. absurd h))
  each_apart (cursor ∷ cursors) [] = ((λ h. absurd h), (λ h. absurd h))
  each_apart (cursor ∷ cursors) (l ∷ ls) =
      let rest = each_apart cursors ls in
      ((λ h. ((h.0, tt), rest.0 h.1)), (λ h. (h.0.0, rest.1 h.1)))

pub tree_independent : AreIndependent tree_law
tree_independent d cursors ls = each_apart d.working d.root cursors ls

module _ {C : Type 0} (R : C → Items → Type 0) where
  no_item : (l : Items) (ls : List Items) → AllZip R [] (ls ++ l ∷ []) → ⊥
  no_item l [] h = h
  no_item l (m ∷ ls) h = h

  no_cursor : (cursor : C) (cursors : List C) → AllZip R (cursors ++ cursor ∷ []) [] → ⊥
  no_cursor cursor [] h = h
  no_cursor cursor (other ∷ cursors) h = h

  with_last : (cursors : List C) (ls : List Items) (cursor : C) (l : Items) → AllZip R cursors ls
      → R cursor l → AllZip R (cursors ++ cursor ∷ []) (ls ++ l ∷ [])
  with_last [] [] cursor l h here = (here, tt)
  with_last [] (m ∷ ls) cursor l h here = absurd h
  with_last (other ∷ cursors) [] cursor l h here = absurd h
  with_last (other ∷ cursors) (m ∷ ls) cursor l h here = (h.0, with_last cursors ls cursor l h.1 here)

  last_apart : (cursors : List C) (ls : List Items) (cursor : C) (l : Items)
      → AllZip R (cursors ++ cursor ∷ []) (ls ++ l ∷ []) → R cursor l × AllZip R cursors ls
  last_apart [] [] cursor l h = (h.0, tt)
  last_apart [] (m ∷ ls) cursor l h = absurd (no_item l ls h.1)
  last_apart (other ∷ cursors) [] cursor l h = absurd (no_cursor cursor cursors h.1)
  last_apart (other ∷ cursors) (m ∷ ls) cursor l h =
      let rest = last_apart cursors ls cursor l h.1 in (rest.0, (h.0, rest.1))

module _ {D C : Type 0} (law : Law D C) (apart : AreIndependent law) where
  last_held : (d : D) (others : List C) (ls : List Items) (cursor : C) (l : Items)
      → HoldsLast law d others ls cursor l → Has law d cursor l × AllZip (Has law d) others ls
  last_held d others ls cursor l h =
      last_apart (Has law d) others ls cursor l ((apart d (others ++ cursor ∷ []) (ls ++ l ∷ [])).0 h)

  next_apart : (d : D) (others : List C) (ls : List Items) (l : Items)
      (r : Result (Option ListItem) NoMemory) (next : C)
      → NextIs (HoldsLast law d others ls) l r next
      → NextIs (Has law d) l r next × AllZip (Has law d) others ls
  next_apart d others ls l (Ok answer) next h =
      let held = last_held d others ls next _ h.1 in ((h.0, held.0), held.1)
  next_apart d others ls l (Err e) next h = last_held d others ls next l h

  pub leaves_others : NextLeavesOthers law
  leaves_others old new cursor next r l others ls call here held =
      next_apart new others ls l r next (call.nexts others ls l
      ((apart old (others ++ cursor ∷ []) (ls ++ l ∷ [])).1
      (with_last (Has law old) others ls cursor l held here)))
