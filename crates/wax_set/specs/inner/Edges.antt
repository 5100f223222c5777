-- How texts begin and end. Only private functions cite this file.
use Rattle.std.specs.{Prelude.{◌≡◌, ◌++◌, ◌⊎◌, ℕ, List, String, [], chars, string_bytes}, List.Any}
use Rattle.std.specs.declared.alloc.Global.{Global}
use Rattle.wax_set.specs.declared.set.edges.Edges.{Edges}

-- the text begins with these characters
abbrev pub HasBeginning : List ℕ → List ℕ → Type 0
HasBeginning beginning text = (rest : List ℕ) × (text ≡ beginning ++ rest)

-- the text ends with these characters
abbrev pub HasEnd : List ℕ → List ℕ → Type 0
HasEnd end text = (front : List ℕ) × (text ≡ front ++ end)

-- the text ends with one of these
abbrev pub HasOneEnd : List (String Global) → List ℕ → Type 0
HasOneEnd ends text = Any (λ end. HasEnd (chars (string_bytes end)) text) ends

-- the text ends with one of these, or nothing is known of its end
abbrev pub AreEnds : List (String Global) → List ℕ → Type 0
AreEnds ends text = (ends ≡ []) ⊎ HasOneEnd ends text

-- the text begins and ends so
pub record HasEdges (edges : Edges) (text : List ℕ) : Type 0 where
  pub beginning : HasBeginning (chars (string_bytes edges.beginning)) text
  pub ends : AreEnds edges.ends.items text
