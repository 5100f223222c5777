-- Patterns of a set that match one path.
use Rattle.std.specs.Prelude.{◌≡◌, ◌<◌, ◌⊎◌, ℕ, List, MatchOption, Some, chars, length, slice_get}
use Rattle.std.specs.Prelude.{string_bytes}
use Rattle.wax_compare.specs.{Comparison.{IsShortest, IsWanted}, Limit.KeepsLimitBy}
use Rattle.wax_compare.specs.declared.wanted.Comparison.TheVariants.{Unknown}
use Rattle.wax_compare.specs.declared.wanted.Texts.TheVariants.{Paths}
use Rattle.wax_compare.specs.declared.wanted.Wanted.TheVariants.{Both}
use Rattle.wax_set.specs.{Sets.MeansAt, declared.set.conflicts.Conflict.Conflict}
use Rattle.wax_token.specs.{Reads.Span, Syntax.{Tree, leaf, alternation, concatenation, repetition}}
use Rattle.wax_token.specs.Words.{listed}

-- the number of patterns of a set
abbrev pub pattern_total : Tree Span → ℕ
pattern_total (alternation a branches) = length (listed branches)
pattern_total (leaf a l) = 0
pattern_total (concatenation a ts) = 0
pattern_total (repetition a t low high) = 0

-- the indexes of two patterns
abbrev pub PatternPair : Type 0
PatternPair = ℕ × ℕ

abbrev pub pair_of : Conflict → PatternPair
pair_of c = (c.first, c.second)

-- a pair comes before another by its first index, and if these are equal, by its second
abbrev pub IsEarlierPair : PatternPair → PatternPair → Type 0
IsEarlierPair p q = (p.0 < q.0) ⊎ ((p.0 ≡ q.0) × (p.1 < q.1))

-- a plain path that both patterns match
abbrev pub IsSharedPath : Tree Span → PatternPair → List ℕ → Type 0
IsSharedPath t p = IsWanted Both Paths (MeansAt t p.0) (MeansAt t p.1)

-- Two patterns, and a shortest plain path that both match. If it has no path, more was reached than the limit
-- allows.
pub record IsConflict (t : Tree Span) (most : ℕ) (c : Conflict) : Type 0 where
  pub ordered : c.first < c.second
  pub within : c.second < pattern_total t
  pub path : MatchOption c.path
      (KeepsLimitBy (MeansAt t c.first) (MeansAt t c.second) Both Paths most Unknown)
      (λ path. IsShortest (IsSharedPath t (pair_of c)) (chars (string_bytes path)))

-- the pair is among the conflicts
abbrev pub IsAmongConflicts : List Conflict → PatternPair → Type 0
IsAmongConflicts conflicts p = (k : ℕ) × (c : Conflict) × (slice_get conflicts k ≡ Some c) × (pair_of c ≡ p)

-- These are conflicts, in order, and each two patterns that both match some plain path are among them.
pub record AreConflicts (t : Tree Span) (most : ℕ) (conflicts : List Conflict) : Type 0 where
  pub each : (k : ℕ) (c : Conflict) → slice_get conflicts k ≡ Some c → IsConflict t most c
  pub ascending : (j k : ℕ) (c d : Conflict) → j < k → slice_get conflicts j ≡ Some c
      → slice_get conflicts k ≡ Some d → IsEarlierPair (pair_of c) (pair_of d)
  pub all : (p : PatternPair) (s : List ℕ) → p.0 < p.1 → IsSharedPath t p s → IsAmongConflicts conflicts p
