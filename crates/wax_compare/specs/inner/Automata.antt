-- The states of a program that letters lead to.
use Rattle.std.specs.Prelude.{◌≡◌, ◌+◌, ◌<◌, ◌≤◌, ◌↔◌, ℕ, Bool, List, [], Option, Some, None, IsTrue, ◌⊎◌}
use Rattle.std.specs.Prelude.{length, map, slice_get, slice_index, slice_set}
use Rattle.wax_program.specs.{declared.instruction.Instruction.Instruction, Machine.Accepts, Threads.AnyAmong}
use Rattle.wax_states.specs.{Indexed.AreIndexed, Reached.AreReached}
use Rattle.wax_compare.specs.Limit.{AllDiffer, IsReachedState, bytes_of_states}
use Rattle.wax_compare.specs.{Selected.{CanSelect, IsSelected}, declared.automaton.Automaton.Automaton}
use Rattle.wax_compare.specs.declared.automaton.ProgramState.{ProgramState}
use Rattle.wax_compare.specs.declared.wanted.Criterion.{Criterion}
use Rattle.wax_compare.specs.inner.Distinctions.{AreDistinctions, MarksOthers}

abbrev pub option_places : Option ProgramState → List ℕ
option_places (Some s) = s.places.items
option_places None = []

-- the places of the state with this number
abbrev pub state_places : List ProgramState → ℕ → List ℕ
state_places states t = option_places (slice_get states t)

abbrev pub option_marks : Option ProgramState → List Bool
option_marks (Some s) = s.marked.items
option_marks None = []

-- the marks of the letters of the state with this number
abbrev pub state_marks : List ProgramState → ℕ → List Bool
state_marks states t = option_marks (slice_get states t)

-- the states keep their numbers, their places and their marks
abbrev pub StatesStay : List ProgramState → List ProgramState → Type 0
StatesStay old new = (t : ℕ) → t < length old
    → (t < length new) × (state_places new t ≡ state_places old t) × (state_marks new t ≡ state_marks old t)

-- the character leads from the places to a state
abbrev pub LeadsToState : List Instruction → List ProgramState → List ℕ → ℕ → ℕ → Type 0
LeadsToState code states places c n =
    (n < length states) × AreReached code c places [] (state_places states n)

-- the places of each state
abbrev pub all_places : List ProgramState → List (List ℕ)
all_places states = map (λ s. s.places.items) states

-- a state is reached, and it says rightly whether a text that ends in it is selected, and where letters lead,
-- as far as it is known
pub record IsStateOf (criterion : Criterion) (code : List Instruction) (letters : List ℕ)
    (states : List ProgramState) (s : ProgramState) : Type 0 where
  pub reached : IsReachedState code s.places.items
  pub ends : IsTrue s.is_selected ↔ IsSelected criterion (AnyAmong code s.places.items) []
  pub marks : MarksOthers code letters s.places.items s.marked.items
  pub room : length s.next.items ≡ length letters
  pub says : (k n : ℕ) → k < length letters → slice_index s.next.items k ≡ n + 1
      → LeadsToState code states s.places.items (slice_index letters k) n

-- the automaton is one of a program of these instructions
pub record IsAutomatonOf (code : List Instruction) (letters : List ℕ) (r : Automaton) : Type 0 where
  pub size : r.stepper ≡ length code
  pub can_select : CanSelect r.criterion code
  pub distinctions : AreDistinctions code letters r.distinctions
  pub rows : (t : ℕ) (s : ProgramState) → slice_get r.states.items t ≡ Some s
      → IsStateOf r.criterion code letters r.states.items s
  pub index : AreIndexed r.index (all_places r.states.items)
  pub differ : AllDiffer (all_places r.states.items)
  pub bytes : r.bytes ≤ bytes_of_states (length letters) (all_places r.states.items)

-- the first state accepts what the program does
pub record BeginsAsProgram (code : List Instruction) (states : List ProgramState) : Type 0 where
  pub some : 0 < length states
  pub accepts : (s : List ℕ) → Accepts code 0 s ↔ AnyAmong code (state_places states 0) s

-- a state may have learned where the letter with a number leads, and nothing else changed
pub record HasLearned (old new : List ProgramState) (state number next : ℕ) : Type 0 where
  pub was : ProgramState
  pub is : ProgramState
  pub at : slice_get old state ≡ Some was
  pub set : new ≡ slice_set old state is
  pub places : is.places ≡ was.places
  pub is_selected : is.is_selected ≡ was.is_selected
  pub marked : is.marked ≡ was.marked
  pub row : (is.next.items ≡ was.next.items) ⊎ (is.next.items ≡ slice_set was.next.items number (next + 1))
