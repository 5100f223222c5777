-- How a walk ends of which it is known what it is to yield.
use Rattle.std.specs.Prelude.{◌≡◌, ◌<◌, ◌++◌, ℕ, List, filter}
use Rattle.wax_walk.specs.{Collected.IsCutShort, declared.error.FaultKind.TheVariants.Budget}
use Rattle.wax_walk.specs.{Forest.{Forest, preorder, listings}, Given.{Given, fault, no_memory, is_kept}}
use Rattle.wax_exclude.specs.Wanted.{is_kept_entry}

-- what a walk is to yield, and the entries that it is to keep of this; what is claimed of the folders that
-- it lists; how many items there are in the folders that it walks through, and how many it may take
pub record Due : Type 1 where
  pub walk : Forest Given
  pub entries : List Given
  pub ListsRightly : Type 0
  pub items : ℕ
  pub budget : ℕ

-- A walk yielded these items: all that is due, with exactly the entries that are, and it listed the right
-- folders; or a prefix of what is due and then one error, because allocation failed or the budget was
-- reached.
pub data KeepsDue (tells : List (List ℕ) → Type 0) (due : Due) (listed : List (List ℕ)) (ys : List Given)
    : Type 0 where
  gives : ys ≡ filter is_kept (preorder due.walk) → filter is_kept_entry ys ≡ due.entries
      → tells (listed ++ listings due.walk) → due.ListsRightly → KeepsDue tells due listed ys
  lacks_memory : IsCutShort (filter is_kept (preorder due.walk)) no_memory ys → KeepsDue tells due listed ys
  over_budget : (path : List ℕ) (depth : ℕ) → due.budget < due.items
      → IsCutShort (filter is_kept (preorder due.walk)) (fault Budget path depth) ys
      → KeepsDue tells due listed ys
