-- The folders that a directory was asked to list, and the items that it returned of them.
use Rattle.std.specs.Prelude.{ℕ, ◌+◌, List, [], ◌∷◌, ◌++◌}
use Rattle.wax_directory.specs.History.{Answer, absent, at_end, found, listed, opened, refused, unseen}

-- the folder that this answer opened, or said that it can't be listed; of another answer none
abbrev pub opened_by : Answer → List (List ℕ)
opened_by (opened path) = path ∷ []
opened_by (refused path) = path ∷ []
opened_by (found path kind) = []
opened_by (absent path) = []
opened_by (unseen path) = []
opened_by (listed x) = []
opened_by at_end = []

-- those of all answers, in order
abbrev pub opened_folders : List Answer → List (List ℕ)
opened_folders [] = []
opened_folders (answer ∷ told) = opened_by answer ++ opened_folders told

-- 1 if the answer is an item of a folder, else 0
abbrev pub item_by : Answer → ℕ
item_by (listed x) = 1
item_by (opened path) = 0
item_by (refused path) = 0
item_by (found path kind) = 0
item_by (absent path) = 0
item_by (unseen path) = 0
item_by at_end = 0

-- how many of the answers are items of folders
abbrev pub items_listed : List Answer → ℕ
items_listed [] = 0
items_listed (answer ∷ told) = item_by answer + items_listed told
