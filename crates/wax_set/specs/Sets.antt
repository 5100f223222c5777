-- What contracts see of a set of patterns.
use Rattle.std.specs.Prelude.{◌≡◌, ◌↔◌, ◌<◌, ◌++◌, ℕ, zero, suc, false, Contains, List, [], ◌∷◌, length}
use Rattle.std.specs.{List.Sorted.IsStrictlyIncreasing, Coded.{Coded, coded×, coded_ℕ}}
use Rattle.wax_prefilter.specs.Compiled.{Instructions, IsCompiled}
use Rattle.wax_program.specs.{Closed.IsClosed, Machine.{Accepts, mark}}
use Rattle.wax_program.specs.declared.instruction.Instruction.{Instruction}
use Rattle.wax_token.specs.{Cost.program_length, Meaning.Means, Reads.Span}
use Rattle.wax_token.specs.Syntax.{Tree, Trees, leaf, alternation, concatenation, repetition, none, more}
use Rattle.wax_token.specs.TreeCode.{tree_code}

-- how the alternation is stored
abbrev pub any_code : Coded (Tree Span)
any_code = tree_code (coded× coded_ℕ coded_ℕ)

-- the tree means the text, with nothing around it
abbrev pub MeansText : Tree Span → List ℕ → Type 0
MeansText t text = Means t false false text

-- the branch with this index means the text
abbrev pub BranchMeans : Trees Span → ℕ → List ℕ → Type 0
BranchMeans none number text = ⊥
BranchMeans (more t ts) zero text = MeansText t text
BranchMeans (more t ts) (suc number) text = BranchMeans ts number text

-- the pattern of the set with this index means the text
abbrev pub MeansAt : Tree Span → ℕ → List ℕ → Type 0
MeansAt (alternation a branches) number text = BranchMeans branches number text
MeansAt (leaf a l) number text = ⊥
MeansAt (concatenation a ts) number text = ⊥
MeansAt (repetition a t low high) number text = ⊥

-- these are the indexes of the patterns that mean the text, ascending
pub record AreMatches (t : Tree Span) (text : List ℕ) (indexes : List ℕ) : Type 0 where
  pub each : (number : ℕ) → Contains indexes number ↔ MeansAt t number text
  pub ascending : IsStrictlyIncreasing indexes

-- an alternation of no expression of its own
abbrev pub IsAlternation : Tree Span → Type 0
IsAlternation t = (branches : Trees Span) × (t ≡ alternation (0, 0) branches)

-- all of the text, as the one capture
abbrev pub IsWhole : List ℕ → List (List ℕ) → Type 0
IsWhole text captures = captures ≡ text ∷ []

-- the program accepts a text with the mark of a number exactly if the pattern with this index means the text,
-- and is shorter than that of the alternation may be
pub record IsNumbered (t : Tree Span) (code : List Instruction) : Type 0 where
  pub means : (number : ℕ) (text : List ℕ) → Accepts code 0 (text ++ mark number ∷ []) ↔ MeansAt t number text
  pub closed : IsClosed code
  pub shorter : length code < program_length t

-- What a set is compiled to: the program of the alternation of its patterns, and the one that numbers them.
pub record IsCompiledAny (t : Tree Span) (program : Instructions) (numbered : List Instruction) : Type 0 where
  pub compiled : IsCompiled t program
  pub numbers : IsNumbered t numbered
  pub alternates : IsAlternation t

-- the program accepts exactly the texts that the tree of a set means
abbrev pub AcceptsText : List Instruction → Tree Span → Type 0
AcceptsText code t = (text : List ℕ) → Accepts code 0 text ↔ MeansText t text
