-- What holds while pairs are followed by letters.
use Rattle.std.specs.Prelude.{◌≡◌, ◌+◌, ◌*◌, ◌<◌, ◌≤◌, ◌⊎◌, ◌↔◌, ◌==◌, ◌&&◌, ℕ, Bool, IsTrue, List, [], ◌∷◌}
use Rattle.std.specs.{Prelude.{Some, length, slice_get, slice_index, ⊤}, Bool.beq}
use Rattle.std.specs.HashSet.{HashSet, contains}
use Rattle.wax_program.specs.declared.instruction.Instruction.{Instruction}
use Rattle.wax_compare.specs.declared.finding.Followed.{Followed}
use Rattle.wax_compare.specs.declared.finding.Followed.TheVariants.{All, Ends, OverLimit}
use Rattle.wax_compare.specs.{declared.pairs.StatePair.StatePair, declared.pairs.Reached.Reached}
use Rattle.wax_compare.specs.{declared.search.Search.Search, Cuts.{AreLetters, AreUnlike, StandsFor}}
use Rattle.wax_compare.specs.inner.Reaching.{AreFollowed, AreReachedPairs, AreSamePairs, BeginAsPrograms}
use Rattle.wax_compare.specs.inner.Reaching.{GoesAt, IsFollowedBy, Readings}
use Rattle.wax_compare.specs.inner.Searching.{AreAutomataOf, readings}

-- the pair was reached
pub record HasPair (reached : List Reached) (p : StatePair) : Type 0 where
  pub at : ℕ
  pub entry : Reached
  pub is : slice_get reached at ≡ Some entry
  pub same : AreSamePairs entry.pair p

-- what `==` says of two pairs
abbrev pub same_pair : StatePair → StatePair → Bool
same_pair p q = p.first == q.first && (p.second == q.second && beq p.may_end q.may_end)

-- the set has exactly the pairs that were reached
abbrev pub AreKnown : {S : Type 0} → List Reached → HashSet StatePair S → Type 0
AreKnown reached known = (p : StatePair) → IsTrue (contains same_pair known p) ↔ HasPair reached p

-- pairs keep their numbers
abbrev pub Grow : List Reached → List Reached → Type 0
Grow old new = (i : ℕ) (x : Reached) → slice_get old i ≡ Some x → slice_get new i ≡ Some x

-- no pair is deeper than the next one after this pair
abbrev pub AreShallow : List Reached → ℕ → Type 0
AreShallow reached at = (i : ℕ) (x y : Reached) → slice_get reached i ≡ Some x
    → slice_get reached at ≡ Some y → x.depth ≤ y.depth + 1

-- what is kept while the pair `at` is followed
pub record IsHeld (code other : List Instruction) (s : Search) (reached : List Reached) (at : ℕ)
    : Type 0 where
  pub automata : AreAutomataOf code other s
  pub letters : AreLetters code other s.letters.items
  pub unlike : AreUnlike code other s.letters.items
  pub begin : BeginAsPrograms (readings code other s)
  pub pairs : AreReachedPairs (readings code other s) reached
  pub followed : AreFollowed (readings code other s) reached at
  pub shallow : AreShallow reached at

-- the pair was followed by each character for which the letter stands
abbrev pub IsVisited : Readings → List Reached → ℕ → ℕ → Type 0
IsVisited r reached at letter = (c : ℕ) (x : Reached) → slice_get reached at ≡ Some x
    → StandsFor r.task.code r.task.other letter c → IsFollowedBy r reached x c

-- a text that led to the pair is wanted, if it ends after the letter
abbrev pub EndsAt : Readings → List Reached → ℕ → ℕ → Type 0
EndsAt r reached at letter = (x : Reached) → slice_get reached at ≡ Some x → GoesAt r x (letter ∷ [])

-- what came of following every letter from the pair
abbrev pub HasFollowed : List Instruction → List Instruction → Search → List Reached → ℕ → Followed → Type 0
HasFollowed code other s reached at All = IsHeld code other s reached (at + 1)
HasFollowed code other s reached at (Ends number) =
    IsHeld code other s reached at × (at < length reached) × (number < length s.letters.items)
    × EndsAt (readings code other s) reached at (slice_index s.letters.items number)
HasFollowed code other s reached at OverLimit = ⊤

-- states and pairs are more than `most` together, or states take more than 384 bytes for each of so many
abbrev pub IsOverLimit : ℕ → Search → List Reached → Type 0
IsOverLimit most s reached =
    (most < length s.first.states.items + length s.second.states.items + length reached)
    ⊎ (384 * most < s.first.bytes + s.second.bytes)
