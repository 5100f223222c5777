-- The pairs that were reached, and what is known of them.
use Rattle.std.specs.Prelude.{◌≡◌, ◌+◌, ◌<◌, ◌≤◌, ◌⊎◌, ◌↔◌, ℕ, true, List, [], ◌∷◌, ◌++◌, Some, length}
use Rattle.std.specs.{Prelude.slice_get, Str.all_scalars, Char.IsScalar}
use Rattle.wax_program.specs.Threads.{AnyAmong}
use Rattle.wax_states.specs.States.{LeadOn}
use Rattle.wax_compare.specs.{declared.pairs.Reached.Reached, declared.pairs.StatePair.StatePair}
use Rattle.wax_compare.specs.{declared.automaton.ProgramState.ProgramState, Limit.{EndsSearch, IsAtPlaces}}
use Rattle.wax_compare.specs.inner.Going.{Goes, GoesOnAmong, IsAllowed, Task, starts}
use Rattle.wax_compare.specs.inner.Automata.{BeginsAsProgram, state_places}

-- a task with the states of its programs
pub record Readings : Type 0 where
  pub task : Task
  pub firsts : List ProgramState
  pub seconds : List ProgramState

-- a text that led to the pair is wanted, if it goes on with s
abbrev pub GoesFrom : Readings → StatePair → List ℕ → Type 0
GoesFrom r p s = Goes r.task (state_places r.firsts p.first) (state_places r.seconds p.second) p.may_end s

abbrev pub GoesAt : Readings → Reached → List ℕ → Type 0
GoesAt r x s = GoesFrom r x.pair s

-- the text leads to the pair
pub record IsLedBy (r : Readings) (text : List ℕ) (p : StatePair) : Type 0 where
  pub first : IsAtPlaces r.task.code text (state_places r.firsts p.first)
  pub second : IsAtPlaces r.task.other text (state_places r.seconds p.second)
  pub among : (s : List ℕ) → GoesOnAmong r.task.texts (starts r.task.texts) (text ++ s)
      ↔ GoesOnAmong r.task.texts p.may_end s

-- some text of characters does
abbrev pub HasTextToPair : Readings → StatePair → Type 0
HasTextToPair r p = (text : List ℕ) × (all_scalars text ≡ true) × IsLedBy r text p

-- the character leads from one pair to the other
pub record IsPairStep (r : Readings) (from : StatePair) (c : ℕ) (to : StatePair) : Type 0 where
  pub first : LeadOn r.task.code c (state_places r.firsts from.first) (state_places r.firsts to.first)
  pub second : LeadOn r.task.other c (state_places r.seconds from.second) (state_places r.seconds to.second)
  pub among : (s : List ℕ) → GoesOnAmong r.task.texts from.may_end (c ∷ s)
      ↔ GoesOnAmong r.task.texts to.may_end s

-- from the places no text is accepted that begins with the character
abbrev pub TakesNone : Readings → StatePair → ℕ → Type 0
TakesNone r p c = (s : List ℕ) → AnyAmong r.task.code (state_places r.firsts p.first) (c ∷ s) → ⊥

abbrev pub OtherTakesNone : Readings → StatePair → ℕ → Type 0
OtherTakesNone r p c = (s : List ℕ) → AnyAmong r.task.other (state_places r.seconds p.second) (c ∷ s) → ⊥

-- the search ends with the character
abbrev pub EndsBy : Readings → StatePair → ℕ → Type 0
EndsBy r p c = EndsSearch r.task.wanted (TakesNone r p c) (OtherTakesNone r p c)

-- the pair came from an earlier one by a letter
pub record CameFrom (r : Readings) (reached : List Reached) (x : Reached) (i : ℕ) : Type 0 where
  pub from : Reached
  pub is : slice_get reached x.before ≡ Some from
  pub earlier : x.before < i
  pub scalar : IsScalar x.letter
  pub deeper : x.depth ≡ from.depth + 1
  pub step : IsPairStep r from.pair x.letter x.pair

-- the character leads from the pair to one that was reached
pub record HasNext (r : Readings) (reached : List Reached) (x : Reached) (c : ℕ) : Type 0 where
  pub at : ℕ
  pub next : Reached
  pub is : slice_get reached at ≡ Some next
  pub near : next.depth ≤ x.depth + 1
  pub step : IsPairStep r x.pair c next.pair

-- the character may not come next, or the search ends with it, or it leads to a pair that was reached
abbrev pub IsFollowedBy : Readings → List Reached → Reached → ℕ → Type 0
IsFollowedBy r reached x c =
    IsAllowed r.task.texts x.pair.may_end c → EndsBy r x.pair c ⊎ HasNext r reached x c

-- the first `done` pairs were followed by every character
abbrev pub AreFollowed : Readings → List Reached → ℕ → Type 0
AreFollowed r reached done = (i c : ℕ) (x : Reached) → i < done → slice_get reached i ≡ Some x → IsScalar c
    → IsFollowedBy r reached x c

pub record AreSamePairs (p q : StatePair) : Type 0 where
  pub first : p.first ≡ q.first
  pub second : p.second ≡ q.second
  pub may_end : p.may_end ≡ q.may_end

-- Each pair is one of states, a text leads to it, and no other is the same; the first one is that of the
-- beginning, and each other one came from an earlier one; no text that led to one is wanted itself, and the
-- pairs are in the order of their depths.
pub record AreReachedPairs (r : Readings) (reached : List Reached) : Type 0 where
  pub placed : (i : ℕ) (x : Reached) → slice_get reached i ≡ Some x
      → (x.pair.first < length r.firsts) × (x.pair.second < length r.seconds)
  pub led : (i : ℕ) (x : Reached) → slice_get reached i ≡ Some x → HasTextToPair r x.pair
  pub differ : (i j : ℕ) (x y : Reached) → i < j → slice_get reached i ≡ Some x → slice_get reached j ≡ Some y
      → AreSamePairs x.pair y.pair → ⊥
  pub beginning : (x : Reached) → slice_get reached 0 ≡ Some x → (x.pair.first ≡ 0) × (x.pair.second ≡ 0)
      × (x.pair.may_end ≡ starts r.task.texts) × (x.depth ≡ 0)
  pub some : 0 < length reached
  pub came : (i : ℕ) (x : Reached) → 0 < i → slice_get reached i ≡ Some x → CameFrom r reached x i
  pub none : (i : ℕ) (x : Reached) → slice_get reached i ≡ Some x → GoesAt r x [] → ⊥
  pub low : (i : ℕ) (x : Reached) → slice_get reached i ≡ Some x → x.depth ≤ i
  pub rises : (i j : ℕ) (x y : Reached) → i ≤ j → slice_get reached i ≡ Some x → slice_get reached j ≡ Some y
      → x.depth ≤ y.depth

-- the states begin as the programs do
pub record BeginAsPrograms (r : Readings) : Type 0 where
  pub first : BeginsAsProgram r.task.code r.firsts
  pub second : BeginsAsProgram r.task.other r.seconds
