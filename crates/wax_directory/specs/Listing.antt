-- What a directory reports and counts when the items of a folder are listed in one call.
use Rattle.std.specs.Prelude.{ℕ, ◌-◌, ◌≤◌, ◌⊎◌, min, List, [], ◌∷◌, ◌++◌, length, Result, Ok, Err, Vec}
use Rattle.wax_directory.specs.declared.directory.ListItem.{ListItem}
use Rattle.wax_directory.specs.declared.directory.DirectoryFault.{DirectoryFault}
use Rattle.wax_directory.specs.declared.directory.DirectoryFault.TheVariants.{Failed, Memory}
use Rattle.wax_directory.specs.{declared.tally.Tally.Tally, Counting.{Counts, no_counts, items_counts}}
use Rattle.wax_directory.specs.{Law.Law, Shown.{Items, Shown}}

-- if anything is shown at the path, the open cursors have the items that they had
module _ {D C : Type 0} (law : Law D C) where
  abbrev pub HeldWhereShown : List ℕ → D → D → Type 0
  HeldWhereShown path old new = (s : Shown) (cursors : List C) (ls : List Items) → law.shows old path s
      → law.holds old cursors ls → law.holds new cursors ls

-- the path was appended to the reported list of opened folders; if allocation failed, it was appended or not
abbrev pub ReportsListed : {Z : Type 0} → (List (List ℕ) → Type 0) → List ℕ
    → Result (Vec ListItem Z) DirectoryFault → List (List ℕ) → Type 0
ReportsListed tells path (Err Memory) t = tells t ⊎ tells (t ++ path ∷ [])
ReportsListed tells path r t = tells (t ++ path ∷ [])

-- what a listing adds of which these items were taken, if `opened` folders were opened and `ended` listings
-- came to their end
abbrev pub listing_counts : List ListItem → ℕ → ℕ → Tally
listing_counts items opened ended = record (items_counts items) { opened = opened; ended = ended }

-- one folder was opened. The returned items were counted, and the end if they are fewer than `most`; or one
-- failure. If allocation failed, the items that were taken until then were counted, at most `most`
abbrev pub CountsListed : {Z : Type 0} → ℕ → Result (Vec ListItem Z) DirectoryFault → Tally → Tally → Type 0
CountsListed most (Ok answer) old new =
    Counts (listing_counts answer.items 1 (min 1 (most - length answer.items))) old new
CountsListed most (Err Failed) old new = Counts (record no_counts { failures = 1; opened = 1; ended = 1 })
    old new
CountsListed most (Err Memory) old new = (items : List ListItem) × (opened : ℕ) × (length items ≤ most)
    × (opened ≤ 1) × Counts (listing_counts items opened 0) old new
