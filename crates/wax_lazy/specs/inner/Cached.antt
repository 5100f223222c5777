-- What is kept between texts.
use Rattle.std.specs.Prelude.{◌≡◌, ℕ, ◌+◌, ◌*◌, ◌<◌, ◌≤◌, ◌⊎◌, ◌↔◌, List, [], ◌∷◌, ◌++◌, Bool, None, Contains}
use Rattle.std.specs.Prelude.{is_some, IfSome, IsFalse, IsTrue, Option, Some, length, replicate, false}
use Rattle.std.specs.Prelude.{slice_get, true}
use Rattle.wax_lazy.specs.{declared.cache.Cache.Cache, declared.cache.chains.Chain.Chain}
use Rattle.wax_lazy.specs.{declared.dfa.LazyDfa.LazyDfa, inner.Rows.AreRows}
use Rattle.wax_lazy.specs.inner.Table.{AreWideCells, BeginsTexts, IsFailureState, IsJoinOf, IsTable}
use Rattle.wax_lazy.specs.inner.Table.{KeepsStates, numbers_in, own_at}
use Rattle.wax_program.specs.{declared.instruction.Instruction.Instruction, Places.HoldsPlace}
use Rattle.wax_program.specs.{Last.{IsLastName, ReadsLast}, Machine.Accepts}
use Rattle.wax_program.specs.Onward.{AreFlagsOf, AreLevelsOf, HasLevel, LevelFlags, PlaceFlags, IsAhead}
use Rattle.wax_program.specs.{Onward.flags_for, declared.onward.Ahead.Ahead, Threads.AnyAmong}
use Rattle.wax_query.specs.declared.query.verdict.Verdict.{Verdict}
use Rattle.wax_states.specs.{Alike.AreLettersOf, declared.table.Next.Next}
use Rattle.wax_states.specs.declared.table.Next.TheVariants.{To, Nothing, Everything}
use Rattle.wax_states.specs.declared.table.State.{State}
use Rattle.wax_states.specs.States.{AreEmpty, HasState, LeadOn, places_at, places_or_none}

-- the cache was made for a program of these instructions, and all that it says holds of it
pub record IsCacheOf (code : List Instruction) (c : Cache) : Type 0 where
  pub size : c.stepper ≡ length code
  pub start : c.start ≤ length code
  pub table : IsTable code c.table.states.items c.table.cells.items
  pub wide : AreWideCells code c.table.states.items c.table.wide_cells.items
  pub rows : AreRows code c.table.states.items c.rows.keys.items c.rows.cells.items
  pub letters : IfSome c.letters (AreLettersOf code)
  pub first : IfSome c.first (BeginsTexts code c.table.states.items c.start)

-- and it has a state with this number
pub record KnowsState (code : List Instruction) (c : Cache) (t : ℕ) : Type 0 where
  pub cache : IsCacheOf code c
  pub has_state : HasState c.table.states.items t

-- it is still a cache of the program, for texts that begin at the same place
pub record KeepsCache (code : List Instruction) (old new : Cache) : Type 0 where
  pub cache : IsCacheOf code new
  pub start : new.start ≡ old.start

-- the lists of places that a step wrote are as they were
pub record AreSameLists (old new : Cache) : Type 0 where
  pub reached : new.reached ≡ old.reached
  pub others : new.others ≡ old.others
  pub loops : new.loops ≡ old.loops

-- what doesn't depend on the states is as it was
pub record IsSameMaker (old new : Cache) : Type 0 where
  pub stepper : new.stepper ≡ old.stepper
  pub letters : new.letters ≡ old.letters
  pub start : new.start ≡ old.start
  pub lists : AreSameLists old new

-- no state is left
pub record IsCleared (old new : Cache) : Type 0 where
  pub maker : IsSameMaker old new
  pub states : new.table.states.items ≡ []
  pub cells : new.table.cells.items ≡ []
  pub wide : AreEmpty new.table.wide_cells.items
  pub row_keys : new.rows.keys.items ≡ []
  pub row_cells : new.rows.cells.items ≡ []
  pub first : new.first ≡ None

-- one state is left, without its failure state and with empty cells
pub record IsRestarted (old new : Cache) (s : State) : Type 0 where
  pub maker : IsSameMaker old new
  pub left : State
  pub places : left.places ≡ s.places
  pub failure : left.failure ≡ None
  pub accepts : left.accepts ≡ s.accepts
  pub numbers : left.numbers ≡ None
  pub states : new.table.states.items ≡ left ∷ []
  pub cells : new.table.cells.items ≡ replicate 128 0
  pub wide : AreEmpty new.table.wide_cells.items
  pub row_keys : new.rows.keys.items ≡ []
  pub row_cells : new.rows.cells.items ≡ []
  pub first : new.first ≡ None

-- the state was added behind the others, with empty cells, under this number
pub record IsAdded (old new : Cache) (s : State) (number : ℕ) : Type 0 where
  pub maker : IsSameMaker old new
  pub numbered : number ≡ length old.table.states.items
  pub states : new.table.states.items ≡ old.table.states.items ++ s ∷ []
  pub cells : new.table.cells.items ≡ old.table.cells.items ++ replicate 128 0
  pub wide : new.table.wide_cells ≡ old.table.wide_cells
  pub rows : new.rows ≡ old.rows
  pub first : new.first ≡ old.first

-- all states are kept, and there are at most so many more
pub record GrowsBy (most : ℕ) (old new : Cache) : Type 0 where
  pub kept : KeepsStates old.table.states.items new.table.states.items
  pub few : length new.table.states.items ≤ length old.table.states.items + most

-- the places are those of the state with this number, and there are at most so many more states
pub record IsInterned (most : ℕ) (old new : Cache) (places : List ℕ) (t : ℕ) : Type 0 where
  pub grows : GrowsBy most old new
  pub known : t < length new.table.states.items
  pub places_are : places_at new.table.states.items t ≡ places
  pub room : length new.table.cells.items ≡ 128 * length new.table.states.items

-- the places that were reached are those of the state, and the others
abbrev pub AreParted : List Instruction → Cache → ℕ → Type 0
AreParted code c at = IsFailureState code c.table.states.items c.reached.items c.others.items at

-- the places that were reached are those to which the own places of the state lead by the character, which
-- are the others, and those of the state `target`
pub record AreStepped (code : List Instruction) (states : List State) (at : ℕ) (target : Option ℕ) (d : ℕ)
    (new : Cache) : Type 0 where
  pub reached : (s : List ℕ) → AnyAmong code new.reached.items s
      ↔ (AnyAmong code (own_at states at) (d ∷ s) ⊎ AnyAmong code (places_or_none states target) s)
  pub others : LeadOn code d (own_at states at) new.others.items

-- the places that were reached follow by the character from those of the state
abbrev pub AreNext : List Instruction → Cache → ℕ → ℕ → Type 0
AreNext code c at d = LeadOn code d (places_at c.table.states.items at) c.reached.items

-- the places are that of the chain and those of its failure state
pub record IsChain (code : List Instruction) (states : List State) (places : List ℕ) (chain : Chain) :
    Type 0 where
  pub has_state : IfSome chain.failure (HasState states)
  pub union : IsJoinOf code places (places_or_none states chain.failure) (chain.place ∷ [])

-- the numbers that are known of texts that end in the state, or none
abbrev pub numbers_at : Cache → Option ℕ → List ℕ
numbers_at c (Some at) = numbers_in (slice_get c.table.states.items at)
numbers_at c None = []

-- the same, if there is a cache
abbrev pub numbers_known : Option Cache → Option ℕ → List ℕ
numbers_known (Some c) at = numbers_at c at
numbers_known None at = []

-- a fact of what may follow a text holds exactly where the next state accepts what is left, and then that
abbrev pub LeadsFor : List Instruction → List State → (List ℕ → Type 0) → List ℕ → Next → Type 0
LeadsFor code states Holds left (To at) = HasState states at
    × ((s : List ℕ) → Holds s ↔ AnyAmong code (places_at states at) (left ++ s))
LeadsFor code states Holds left Nothing = (s : List ℕ) → Holds s → ⊥
LeadsFor code states Holds left Everything = (s : List ℕ) → Holds s

-- the places accept what begins with `left` exactly where the next state accepts what begins with `after`
-- instead of it
abbrev pub DecidesLeft : List Instruction → List State → List ℕ → List ℕ → List ℕ → Next → Type 0
DecidesLeft code states places left = LeadsFor code states (λ s. AnyAmong code places (left ++ s))

-- the places of the next state accept what may follow the text exactly where the program accepts the whole
abbrev pub LeadsText : List Instruction → List State → ℕ → List ℕ → Next → Type 0
LeadsText code states start text = LeadsFor code states (λ s. Accepts code start (text ++ s)) []

-- some text is accepted that begins with this one and goes on so, with at most so many names
abbrev pub AcceptsAhead : List Instruction → Option ℕ → ℕ → List ℕ → Ahead → Type 0
AcceptsAhead code most start text m = (s : List ℕ) × IsAhead most m s × Accepts code start (text ++ s)

-- both answers are right, where what goes on is said by m and the limit
pub record IsAheadVerdict (code : List Instruction) (most : Option ℕ) (start : ℕ) (text : List ℕ) (m : Ahead)
    (v : Verdict) : Type 0 where
  pub matches : IsTrue v.is_match ↔ Accepts code start text
  pub ahead : IsTrue v.goes_on ↔ AcceptsAhead code most start text m

-- from one of the places some text is accepted that goes on so
abbrev pub AnyAhead : PlaceFlags → Ahead → List ℕ → Type 0
AnyAhead f m places = (k : ℕ) × Contains places k × HoldsPlace (flags_for m f) k

-- the cache of a program of these instructions, for texts of which the last component alone is read where the
-- flag says so
pub record IsKeptFor (code : List Instruction) (reads_last : Bool) (c : Cache) : Type 0 where
  pub cache : IsCacheOf code c
  pub name : IsTrue reads_last → c.start ≡ 2
  pub whole : IsFalse reads_last → c.start ≡ 0

-- this part of the text is followed: its last component if the flag says so, and otherwise all of it
abbrev pub IsFollowed : Bool → List ℕ → List ℕ → Type 0
IsFollowed true text part = IsLastName text part
IsFollowed false text part = part ≡ text

-- this is known of a program of these instructions
pub record IsDfaOf (code : List Instruction) (k : LazyDfa) : Type 0 where
  pub last : IsTrue k.reads_last → ReadsLast code
  pub long : IsTrue k.reads_last → 2 ≤ length code
  pub cache : IfSome k.cache (IsKeptFor code k.reads_last)
  pub onward : IfSome k.onward (AreFlagsOf code None)
  pub levels : IfSome k.levels (AreLevelsOf code)

-- it has the places that lead on within this limit, or without one
abbrev pub KnowsAhead : LazyDfa → Option ℕ → Type 0
KnowsAhead k None = IsTrue (is_some k.onward)
KnowsAhead k (Some most) = (levels : LevelFlags) × (k.levels ≡ Some levels) × HasLevel levels most
