-- A glob in two: its prefix, and the rest.
use Rattle.std.specs.Prelude.{◌≡◌, ◌≤◌, ◌⊎◌, ◌↔◌, ◌++◌, ℕ, false, List, Option, Some, None, MatchOption}
use Rattle.wax_facts.specs.{Joined.{IsSeam, begins_with_leaf, path}, Partition.{BeginsPlainly, rest_end}}
use Rattle.wax_facts.specs.{Prefix.{IsRooted, Prefix, opened}, Rest.left}
use Rattle.wax_partition.specs.Partition.{rest_glob}
use Rattle.wax_token.specs.{Cost.program_length, Reads.Span, Syntax.Tree}
use Rattle.wax.specs.GlobView.{GlobView, IsMeant}

-- an expression's characters and its tree, as a glob
abbrev pub as_glob : Option (List ℕ × Tree Span) → Option GlobView
as_glob None = None
as_glob (Some u) = Some (record { expression = u.0; tree = u.1 })

-- the tokens after the first ones, so many of the opened list, with their part of the expression
abbrev pub glob_after : GlobView → ℕ → Option GlobView
glob_after g n = as_glob (rest_glob g.expression (rest_end g.tree n) (left g.tree n))

-- the text begins with the prefix, and beside the border stands a `/` unless one side is empty
abbrev pub BeginsAtSeam : List ℕ → List ℕ → Type 0
BeginsAtSeam p s = (q : List ℕ) × (s ≡ p ++ q) × IsSeam p q

-- the first token is a branch that always begins with `/`, and isn't of one text
abbrev pub BeginsByBranch : GlobView → Type 0
BeginsByBranch g = IsRooted (opened g.tree) × (begins_with_leaf (opened g.tree) ≡ false)

-- What a rest means and costs, beside the glob with its prefix.
pub record IsRest (g : GlobView) (p : List ℕ) (u : GlobView) : Type 0 where
  -- exactly what the glob means after the prefix
  pub after : BeginsPlainly g.tree → (s : List ℕ) → IsMeant u s ↔ IsMeant g (path p s)
  -- each text of the glob is the prefix, or the prefix and then a text of the rest
  pub all : BeginsPlainly g.tree → (s : List ℕ) → IsMeant g s →
      (s ≡ p) ⊎ ((r : List ℕ) × (s ≡ path p r) × IsMeant u r)
  -- the same as the glob, where a branch comes first
  pub same : BeginsByBranch g → (s : List ℕ) → IsMeant u s ↔ IsMeant g s
  -- it costs no more than the glob
  pub costs : program_length u.tree ≤ program_length g.tree

-- the prefix is all that the glob means
abbrev pub MeansAlone : GlobView → List ℕ → Type 0
MeansAlone g p = (s : List ℕ) → IsMeant g s ↔ (s ≡ p)

-- The prefix of a glob, and the rest; none where no token is left.
pub record HasParts (g : GlobView) (p : List ℕ) (rest : Option GlobView) : Type 0 where
  -- how many tokens the prefix takes
  pub taken : ℕ
  pub prefix : Prefix g.tree taken p
  pub rest_is : rest ≡ glob_after g taken
  -- each text that matches begins with it
  pub front : (s : List ℕ) → IsMeant g s → BeginsAtSeam p s
  -- what the rest means; without one the prefix is all
  pub means : MatchOption rest (MeansAlone g p) (IsRest g p)

-- the same, with another glob where there is no rest
abbrev pub HasPartsOr : (GlobView → Type 0) → GlobView → List ℕ → GlobView → Type 0
HasPartsOr Other g p u = HasParts g p (Some u) ⊎ (HasParts g p None × Other u)
