-- The start and the candidate of a path, as parts of it or as texts of their own.
use Rattle.std.specs.{Prelude.{ℕ, List, take, drop, string_bytes, ⊤}, Str.IsCharBoundary}
use Rattle.wax_walk.specs.declared.walked_path.Texts.{Texts}
use Rattle.wax_walk.specs.declared.walked_path.Texts.TheVariants.{Within, Own}

abbrev pub root_text : Texts → List ℕ → List ℕ
root_text (Within end start) path = take end path
root_text (Own root candidate) path = string_bytes root

abbrev pub candidate_text : Texts → List ℕ → List ℕ
candidate_text (Within end start) path = drop start path
candidate_text (Own root candidate) path = string_bytes candidate

-- parts end and begin between characters
abbrev pub FitsPath : Texts → List ℕ → Type 0
FitsPath (Within end start) path = IsCharBoundary path end × IsCharBoundary path start
FitsPath (Own root candidate) path = ⊤
