-- A glob in two parts: its prefix, and the rest.
use Rattle.std.specs.Prelude.{◌≡◌, ◌⊎◌, ◌↔◌, ℕ, ◌-◌, true, false, List, Option, Some, None}
use Rattle.wax_token.specs.{Meaning.Means, Reads.Span, Spelled.span_end}
use Rattle.wax_token.specs.{Syntax.{Tree, concatenation, Trees, none, more}, Words.annotation_of}
use Rattle.wax_facts.specs.{Joined.{begins_with_leaf, path}, Orderly.Flat, Prefix.{IsRooted, Prefix, opened}}
use Rattle.wax_facts.specs.Rest.{left, owner, rest}

-- the tokens as a glob, with a span from the first one up to the byte `end`
abbrev pub glob_up_to : ℕ → Trees Span → Option (Tree Span)
glob_up_to end none = None
glob_up_to end (more t ts) = Some (concatenation ((annotation_of t).0, end - (annotation_of t).0) (more t ts))

-- the byte where the glob or sub-glob ends that the rest belongs to
abbrev pub rest_end : Tree Span → ℕ → ℕ
rest_end t n = span_end (annotation_of (owner t n).0)

-- the rest as a glob, up to the end of the glob or sub-glob that it belongs to
abbrev pub rest_glob : Tree Span → ℕ → Option (Tree Span)
rest_glob t n = glob_up_to (rest_end t n) (rest t n)

-- p is the prefix of the tree and, if that is flat, u is the rest; spans are those of the whole expression
abbrev pub IsPartition : Tree Span → List ℕ → Option (Tree Span) → Type 0
IsPartition t p u = (n : ℕ) × Prefix t n p × (Flat t → u ≡ rest_glob t n)

-- p is the prefix of the tree and, if that is flat, `ts` are the tokens after it, and `end` is where the glob
-- or sub-glob ends that these belong to
abbrev pub IsSplit : Tree Span → List ℕ → Trees Span → ℕ → Type 0
IsSplit t p ts end = (n : ℕ) × Prefix t n p × (Flat t → (ts ≡ left t n) × (end ≡ rest_end t n))

-- if the first token of the opened list always begins with `/` and has no invariant text, it is a leaf
abbrev pub BeginsPlainly : Tree Span → Type 0
BeginsPlainly t = IsRooted (opened t) → begins_with_leaf (opened t) ≡ true

-- the rest matches exactly what the whole matches after the prefix
abbrev pub MeansAfter : Tree Span → List ℕ → Tree Span → Type 0
MeansAfter t p u = (s : List ℕ) → Means u false false s ↔ Means t false false (path p s)

-- each text that the whole matches is the prefix, or the prefix joined with a text that the rest matches
abbrev pub SplitsAll : Tree Span → List ℕ → Tree Span → Type 0
SplitsAll t p u = (s : List ℕ) → Means t false false s →
    (s ≡ p) ⊎ ((r : List ℕ) × (s ≡ path p r) × Means u false false r)
