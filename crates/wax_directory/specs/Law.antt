-- The relations in which the contracts of a directory are stated.
use Rattle.std.specs.Prelude.{ℕ, List, [], ◌∷◌, ◌++◌}
use Rattle.wax_directory.specs.{declared.tally.Tally.Tally, History.Answer, Shown.{Items, Shown}}

-- what a directory shows at a path; which items its open cursors have yet to yield, in the order in which
-- they were opened; which lists of opened folders, in order, it may report; what it counted; and what it
-- answered
pub record Law (D C : Type 0) : Type 1 where
  pub shows : D → List ℕ → Shown → Type 0
  pub holds : D → List C → List Items → Type 0
  pub tells : D → List (List ℕ) → Type 0
  pub tally : D → Tally
  pub answered : D → List Answer

module _ {D C : Type 0} (law : Law D C) where
  -- the new directory shows at each path what the old one does
  abbrev pub ShowsSame : D → D → Type 0
  ShowsSame old new = (path : List ℕ) (s : Shown) → law.shows old path s → law.shows new path s

  -- the open cursors have the items that they had
  abbrev pub HoldsSame : D → D → Type 0
  HoldsSame old new = (cursors : List C) (ls : List Items) → law.holds old cursors ls
      → law.holds new cursors ls

  -- beside these cursors, which have these items, the last opened cursor has the items l
  abbrev pub HoldsLast : D → List C → List Items → C → Items → Type 0
  HoldsLast d cursors ls cursor l = law.holds d (cursors ++ cursor ∷ []) (ls ++ l ∷ [])
