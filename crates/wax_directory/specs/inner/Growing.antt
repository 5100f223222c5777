-- What a node shows that is made from tails.
use Rattle.std.specs.Prelude.{ℕ, cond, List, Option, Some, None}
use Rattle.wax_directory.specs.{declared.tree.Node.Node, Nodes.{reached, shown_reached}}
use Rattle.wax_directory.specs.PathTails.{PathTail, rests, holds_name, StandsBy}

-- a name, unless it is one of these
abbrev pub new_name : List (List ℕ) → Option (List ℕ) → Option (List ℕ)
new_name names None = None
new_name names (Some x) = cond (holds_name x names) None (Some x)

-- along any names, the node shows what the tails that begin with them lead to
abbrev pub Grows : List PathTail → Node → Type 0
Grows tails n = (names : List (List ℕ)) → StandsBy (rests names tails) (shown_reached (reached names n))
