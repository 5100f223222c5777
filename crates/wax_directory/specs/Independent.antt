-- Directories whose cursors may be used and dropped in any order.
use Rattle.std.specs.{Prelude.{◌↔◌, List, [], ◌∷◌, Option, Result}, List.AllZip}
use Rattle.wax_query.specs.declared.diagnostics.NoMemory.{NoMemory}
use Rattle.wax_directory.specs.{declared.directory.ListItem.ListItem, Answers.NextIs, Calls.NextCall, Law.Law}
use Rattle.wax_directory.specs.Shown.{Items}

module _ {D C : Type 0} (law : Law D C) where
  -- the open cursor has these items yet to yield, whatever other cursors are open
  abbrev pub Has : D → C → Items → Type 0
  Has d cursor l = law.holds d (cursor ∷ []) (l ∷ [])

  -- what open cursors have together is what each has, in whatever order they were opened
  abbrev pub AreIndependent : Type 0
  AreIndependent = (d : D) (cursors : List C) (ls : List Items)
      → law.holds d cursors ls ↔ AllZip (Has d) cursors ls

  -- `next` of any open cursor takes an item from this cursor, and leaves all other open cursors as they are
  abbrev pub NextLeavesOthers : Type 0
  NextLeavesOthers = (old new : D) (cursor next : C) (r : Result (Option ListItem) NoMemory)
      (l : Items) (others : List C) (ls : List Items)
      → NextCall law old cursor r new next → Has old cursor l → AllZip (Has old) others ls
      → NextIs (Has new) l r next × AllZip (Has new) others ls
