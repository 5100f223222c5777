-- How conflicts are found. Only private functions cite this file.
use Rattle.std.specs.Prelude.{◌≡◌, ◌↔◌, ◌<◌, ℕ, List, MatchOption, Option, Some, length, slice_get}
use Rattle.wax_program.specs.Machine.{Accepts}
use Rattle.wax_set.specs.Conflicts.{IsAmongConflicts, IsConflict, IsEarlierPair, IsSharedPath, PatternPair}
use Rattle.wax_set.specs.{Conflicts.pair_of, Sets.MeansAt}
use Rattle.wax_set.specs.declared.set.conflicts.CompiledPattern.{CompiledPattern}
use Rattle.wax_set.specs.{declared.set.conflicts.Conflict.Conflict, inner.Edges.HasEdges}
use Rattle.wax_token.specs.{Reads.Span, Syntax.{Tree, alternation}, Words.trees}

-- the tree of the set of these patterns
abbrev pub set_tree : List (Tree Span) → Tree Span
set_tree branches = alternation (0, 0) (trees branches)

-- the program accepts the texts that match, and these have the edges
pub record IsCompiledPattern (Matches : List ℕ → Type 0) (pattern : CompiledPattern) : Type 0 where
  pub accepts : (s : List ℕ) → Accepts pattern.program.0 0 s ↔ Matches s
  pub edges : (s : List ℕ) → Matches s → HasEdges pattern.edges s

-- these are the patterns, in order
pub record AreCompiled (branches : List (Tree Span)) (compiled : List CompiledPattern) : Type 0 where
  pub total : length compiled ≡ length branches
  pub each : (k : ℕ) (pattern : CompiledPattern) → slice_get compiled k ≡ Some pattern
      → IsCompiledPattern (MeansAt (set_tree branches) k) pattern

-- what is found of two patterns: their conflict, or that no plain path is matched by both
abbrev pub IsPairDecided : Tree Span → ℕ → PatternPair → Option Conflict → Type 0
IsPairDecided t most p found = MatchOption found ((s : List ℕ) → IsSharedPath t p s → ⊥)
    (λ c. IsConflict t most c × (pair_of c ≡ p))

-- these are the conflicts of the pairs before a pair
pub record AreConflictsBefore (t : Tree Span) (most : ℕ) (end : PatternPair) (conflicts : List Conflict)
    : Type 0 where
  pub each : (k : ℕ) (c : Conflict) → slice_get conflicts k ≡ Some c → IsConflict t most c
  pub before : (k : ℕ) (c : Conflict) → slice_get conflicts k ≡ Some c → IsEarlierPair (pair_of c) end
  pub ascending : (j k : ℕ) (c d : Conflict) → j < k → slice_get conflicts j ≡ Some c
      → slice_get conflicts k ≡ Some d → IsEarlierPair (pair_of c) (pair_of d)
  pub all : (p : PatternPair) (s : List ℕ) → p.0 < p.1 → IsEarlierPair p end → IsSharedPath t p s
      → IsAmongConflicts conflicts p
