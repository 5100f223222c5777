-- The open cursors of a tree, when one is opened, and when the last one is advanced or dropped.
use Rattle.std.proofs.Common.{◌≡◌, List, [], ◌∷◌, ◌++◌, Result, Ok, Err, subst}
use Rattle.wax_directory.specs.declared.directory.DirectoryFault.{DirectoryFault}
use Rattle.wax_directory.specs.{declared.directory.DirectoryFault.TheVariants.{Failed, Memory}, Answers.Opens}
use Rattle.wax_directory.specs.{declared.tree.Node.Node, declared.tree.TreeCursor.TreeCursor}
use Rattle.wax_directory.specs.Shown.{Items, Shown, a_leaf, a_folder, a_sealed, missing, failing}
use Rattle.wax_directory.specs.Trees.{HasItems, HaveEach}

module _ (working root : Node) where
  none_more : (l : Items) (ls : List Items) → HaveEach working root [] (ls ++ l ∷ []) → ⊥
  none_more l [] h = h
  none_more l (m ∷ ls) h = h

  none_has : (cursor : TreeCursor) (cursors : List TreeCursor)
      → HaveEach working root (cursors ++ cursor ∷ []) [] → ⊥
  none_has cursor [] h = h
  none_has cursor (other ∷ cursors) h = h

  pub last_parts : (cursors : List TreeCursor) (ls : List Items) (cursor : TreeCursor) (l : Items)
      → HaveEach working root (cursors ++ cursor ∷ []) (ls ++ l ∷ [])
      → HaveEach working root cursors ls × HasItems working root cursor l
  last_parts [] [] cursor l h = (tt, h.0)
  last_parts [] (m ∷ ls) cursor l h = absurd (none_more l ls h.1)
  last_parts (other ∷ cursors) [] cursor l h = absurd (none_has cursor cursors h.1)
  last_parts (other ∷ cursors) (m ∷ ls) cursor l h = let p = last_parts cursors ls cursor l h.1
      in ((h.0, p.0), p.1)

  pub last_dropped : (cursors : List TreeCursor) (ls : List Items) (cursor : TreeCursor) (l : Items)
      → HaveEach working root (cursors ++ cursor ∷ []) (ls ++ l ∷ []) → HaveEach working root cursors ls
  last_dropped cursors ls cursor l h = (last_parts cursors ls cursor l h).0

  pub one_more : (cursors : List TreeCursor) (ls : List Items) (cursor : TreeCursor) (l : Items)
      → HaveEach working root cursors ls → HasItems working root cursor l
      → HaveEach working root (cursors ++ cursor ∷ []) (ls ++ l ∷ [])
  one_more [] [] cursor l h here = (here, tt)
  one_more [] (m ∷ ls) cursor l h here = absurd h
  one_more (other ∷ cursors) [] cursor l h here = absurd h
  one_more (other ∷ cursors) (m ∷ ls) cursor l h here = (h.0, one_more cursors ls cursor l h.1 here)

  -- opening a folder adds a cursor
  pub opens_last : (cursors : List TreeCursor) (ls : List Items) → HaveEach working root cursors ls
      → (at s : Shown) → at ≡ s → (r : Result TreeCursor DirectoryFault) → Opens (HasItems working root) at r
      → Opens (λ cursor l. HaveEach working root (cursors ++ cursor ∷ []) (ls ++ l ∷ [])) s r
  opens_last cursors ls held at s is r o =
      let O : Shown → Type 0 =
      λ v. Opens (λ cursor l. HaveEach working root (cursors ++ cursor ∷ []) (ls ++ l ∷ [])) v r in
      subst O is (go at r o) where
        go : (at : Shown) (r : Result TreeCursor DirectoryFault) → Opens (HasItems working root) at r
            → Opens (λ cursor l. HaveEach working root (cursors ++ cursor ∷ []) (ls ++ l ∷ [])) at r
        go at (Err Memory) o = tt
        go (a_folder l) (Ok cursor) o = one_more cursors ls cursor l held o
        go (a_folder l) (Err Failed) o = o
        go (a_leaf link) (Ok cursor) o = o
        go (a_leaf link) (Err Failed) o = o
        go a_sealed (Ok cursor) o = o
        go a_sealed (Err Failed) o = o
        go missing (Ok cursor) o = o
        go missing (Err Failed) o = o
        go failing (Ok cursor) o = o
        go failing (Err Failed) o = o
