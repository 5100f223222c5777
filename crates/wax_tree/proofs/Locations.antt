-- Locations in folders and below them.
use Rattle.std.proofs.Common.{◌≡◌, ◌+◌, ◌<◌, ◌^◌, ℕ, List, ap, arith}
use Rattle.wax_walk.specs.{declared.walked_path.WalkedPath.WalkedPath, Entries.entry_texts, Given.Facts}
use Rattle.wax_tree.specs.{Courses.onward_location, Plain.{Location, item_location, one_deeper}}
use Rattle.wax_tree.specs.Walking.{entry_location, located}

-- the location of a name in a folder, one level deeper
pub onward_is : (at : Location) (x : List ℕ) → at.depth + 1 < 2 ^ 64
    → onward_location at x ≡ one_deeper (item_location at x)
onward_is at x h = ap (λ n. record (item_location at x) { depth = n }) (omega (arith, h))

-- the folder of an entry, from a copy of its path
pub folder_is : (f : Facts) (path : WalkedPath) (depth : ℕ) → path ≡ entry_texts f → depth ≡ f.depth
    → located (record { path = path; depth = depth + 1 }) ≡ one_deeper (entry_location f)
folder_is f path depth e d = λ i. located (record { path = e i; depth = d i + 1 })
