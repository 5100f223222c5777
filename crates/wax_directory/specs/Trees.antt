-- A tree as a directory.
use Rattle.std.specs.Prelude.{◌≡◌, ℕ, if◌then◌else◌, List, [], ◌∷◌, map, drop, Option, Some, None}
use Rattle.std.specs.Prelude.{string_bytes, slice_get, ⊤}
use Rattle.wax_directory.specs.{declared.tree.Node.Node, declared.tree.TreeItem.TreeItem}
use Rattle.wax_directory.specs.{declared.tree.Tree.Tree, declared.tree.TreeCursor.TreeCursor}
use Rattle.wax_directory.specs.{Shown.{Items, Shown}, Law.Law, Names.{is_rooted, names_in_path}}
use Rattle.wax_directory.specs.Nodes.{Reached, reached, shown_reached, HasDistinctNames, node_at, held_of}
use Rattle.wax_directory.specs.Nodes.{items_shown}

-- where a path leads: from the root if it begins with `/`, else from the working folder
abbrev pub reached_in : Node → Node → List ℕ → Reached
reached_in working root path = reached (names_in_path path) (if is_rooted path then root else working)

abbrev pub shown_in : Node → Node → List ℕ → Shown
shown_in working root path = shown_reached (reached_in working root path)

abbrev pub tree_start : Tree → List ℕ → Node
tree_start t path = if is_rooted path then t.root else t.working

-- a tree shows at a path what that leads to, if no folder in it holds a name twice
abbrev pub tree_shows : Tree → List ℕ → Shown → Type 0
tree_shows t path s = HasDistinctNames t.working × HasDistinctNames t.root ×
    (shown_in t.working t.root path ≡ s)

abbrev pub held_by : Node → Node → TreeCursor → Option (List TreeItem)
held_by working root cursor =
    held_of (node_at cursor.places.items (if cursor.is_rooted then root else working))

-- a cursor has the items of its folder from its position on
abbrev pub HasItems : Node → Node → TreeCursor → Items → Type 0
HasItems working root cursor l = (items : List TreeItem) × (held_by working root cursor ≡ Some items) ×
    (l ≡ items_shown (drop cursor.next items))

-- the cursors have these items, pairwise
abbrev pub HaveEach : Node → Node → List TreeCursor → List Items → Type 0
HaveEach working root [] [] = ⊤
HaveEach working root [] (l ∷ ls) = ⊥
HaveEach working root (cursor ∷ cursors) [] = ⊥
HaveEach working root (cursor ∷ cursors) (l ∷ ls) =
    HasItems working root cursor l × HaveEach working root cursors ls

abbrev pub item_among : ℕ → Option (List TreeItem) → Option TreeItem
item_among k None = None
item_among k (Some items) = slice_get items k

-- the next item of a cursor
abbrev pub item_at : Tree → TreeCursor → Option TreeItem
item_at t cursor = item_among cursor.next (held_by t.working t.root cursor)

-- what a tree shows, holds, reports, counts and answered
abbrev pub tree_law : Law Tree TreeCursor
tree_law = record {
  shows = tree_shows;
  holds = λ t cursors ls. HaveEach t.working t.root cursors ls;
  tells = λ t told. map string_bytes t.listed.items ≡ told;
  tally = λ t. t.tally;
  answered = λ t. t.history.answers;
}
