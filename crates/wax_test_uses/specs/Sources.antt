-- A small tree that is written out, and the paths of what a walk keeps.
use Rattle.std.specs.Prelude.{◌≡◌, ◌⊎◌, ◌++◌, ℕ, false, List, [], ◌∷◌, Option, Some, None, chars, codes, map}
use Rattle.wax.specs.Walks.{Given, Items, end, entry, folder, kept, leaf, no_memory}

abbrev pub file : List ℕ → Items → Items
file name rest = leaf name false rest

-- what is in the folder `src` of the tree
abbrev pub src_items : Items
src_items =
    file (codes "a.rs")
    (file (codes "b.txt")
    (file (codes "main.o") (file (codes "main.rs") (folder (codes "net") (file (codes "tcp.rs") end) end))))

-- what is in the tree
abbrev pub source_items : Items
source_items = folder (codes "docs") (file (codes "x.md") end) (folder (codes "src") src_items end)

-- the path of a kept entry, from the start; none of anything else
abbrev pub kept_path : Given → Option (List ℕ)
kept_path (entry kept f) = Some (chars f.candidate)
kept_path x = None

-- memory ran out, as the last item says
abbrev pub RanOutOfMemory : List Given → Type 0
RanOutOfMemory items = (before : List Given) × (items ≡ before ++ no_memory ∷ [])

-- unless memory ran out, the items are entries with these paths, in this order, and no errors
abbrev pub HasPaths : List (List ℕ) → List Given → Type 0
HasPaths paths items = RanOutOfMemory items ⊎ (map kept_path items ≡ map Some paths)
