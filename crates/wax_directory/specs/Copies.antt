-- Copies of nodes.
use Rattle.std.specs.{Prelude.{◌≡◌, ℕ, List, Option}, Option.option_map}
use Rattle.wax_directory.specs.declared.tree.Node.{Node}
use Rattle.wax_directory.specs.Nodes.{reached, shown_reached, held_of, node_at, names_of}

-- the names in the folder at these places
abbrev pub names_at : List ℕ → Node → Option (List (List ℕ))
names_at places n = option_map names_of (held_of (node_at places n))

-- the copy shows the same along any names, and has the same names at any places
pub record IsCopy (n copy : Node) : Type 0 where
  pub shows : (names : List (List ℕ)) → shown_reached (reached names copy) ≡ shown_reached (reached names n)
  pub names : (places : List ℕ) → names_at places copy ≡ names_at places n
