-- What a table of states says of a program.
use Rattle.std.specs.Prelude.{◌≡◌, ℕ, ◌+◌, ◌*◌, ◌<◌, ◌≤◌, ◌⊎◌, ◌↔◌, ◌∷◌, List, [], Option, Some, None, IfSome}
use Rattle.std.specs.{Prelude.{Contains, IsTrue, length, slice_get, slice_index}, Global.Vec}
use Rattle.std.specs.List.Sorted.{IsStrictlyIncreasing}
use Rattle.wax_lazy.specs.Cost.{most_kept}
use Rattle.wax_program.specs.{declared.instruction.Instruction.Instruction, Machine.{Accepts, mark}}
use Rattle.wax_program.specs.Threads.{AnyAmong}
use Rattle.wax_states.specs.{Reached.AreEndsMarked, declared.table.State.State}
use Rattle.wax_states.specs.declared.table.WideCell.{WideCell}
use Rattle.wax_states.specs.States.{IsDead, HasState, IsTransition, LeadsTo, places_at}

-- the numbers if they are known, or none
abbrev pub known_numbers : Option (Vec ℕ) → List ℕ
known_numbers (Some v) = v.items
known_numbers None = []

-- the numbers that a state keeps, or none
abbrev pub numbers_in : Option State → List ℕ
numbers_in (Some s) = known_numbers s.numbers
numbers_in None = []

-- the own places of a state, or none
abbrev pub own_in : Option State → List ℕ
own_in (Some s) = s.own.items
own_in None = []

-- the own places of the state with this number
abbrev pub own_at : List State → ℕ → List ℕ
own_at states t = own_in (slice_get states t)

-- the states keep their numbers and their places
abbrev pub KeepsStates : List State → List State → Type 0
KeepsStates old new = (t : ℕ) → t < length old
    → (t < length new) × (places_at new t ≡ places_at old t) × (own_at new t ≡ own_at old t)

-- some of the places accept a text exactly where some of the one part or of the other do
abbrev pub IsJoinOf : List Instruction → List ℕ → List ℕ → List ℕ → Type 0
IsJoinOf code places part other =
    (s : List ℕ) → AnyAmong code places s ↔ (AnyAmong code part s ⊎ AnyAmong code other s)

-- the places are those of the state, and the others
pub record IsFailureState (code : List Instruction) (states : List State) (places others : List ℕ) (at : ℕ) :
    Type 0 where
  pub has_state : HasState states at
  pub union : IsJoinOf code places (places_at states at) others

-- these are the numbers whose marks are accepted from one of the places on, ascending
abbrev pub AreNumbersOf : List Instruction → List ℕ → List ℕ → Type 0
AreNumbersOf code places numbers = AreEndsMarked code places numbers × IsStrictlyIncreasing numbers

-- the numbers of the state `at` are those of the state `rest` and these
abbrev pub AreJoined : List Instruction → List State → ℕ → List ℕ → ℕ → Type 0
AreJoined code states at numbers rest = (number : ℕ) → AnyAmong code (places_at states at) (mark number ∷ [])
    ↔ (Contains numbers number ⊎ AnyAmong code (places_at states rest) (mark number ∷ []))

-- what the state says of texts that end there is right; and if it has a failure state, its places are those
-- of that state and its own
pub record IsState (code : List Instruction) (states : List State) (s : State) : Type 0 where
  pub ends : IfSome s.accepts (λ b. IsTrue b ↔ AnyAmong code s.places.items [])
  pub numbers : IfSome s.numbers (λ v. AreNumbersOf code s.places.items v.items)
  pub failure : IfSome s.failure (IsFailureState code states s.places.items s.own.items)

-- where the character leads from the places
abbrev pub Leads : List Instruction → List State → List ℕ → ℕ → Option ℕ → Type 0
Leads code states places c None = IsDead code places c
Leads code states places c (Some at) = LeadsTo code states places c at

-- the cell is empty, or says where its character leads from the places of its state
abbrev pub IsWideCell : List Instruction → List State → WideCell → Type 0
IsWideCell code states w = (w.cell ≡ 0)
    ⊎ (HasState states w.state × IsTransition code states (places_at states w.state) w.character w.cell)

-- each cell of a character past ASCII is such a cell
abbrev pub AreWideCells : List Instruction → List State → List WideCell → Type 0
AreWideCells code states ws = (i : ℕ) (w : WideCell) → slice_get ws i ≡ Some w → IsWideCell code states w

-- the states are those of a program, at most so many, and each has a cell for each of 128 characters
pub record IsTable (code : List Instruction) (states : List State) (cells : List ℕ) : Type 0 where
  pub few : length states ≤ most_kept
  pub room : length cells ≡ 128 * length states
  pub rows : (t : ℕ) (s : State) → slice_get states t ≡ Some s → IsState code states s
  pub says : (t k : ℕ) → t < length states → k < 128
      → IsTransition code states (places_at states t) k (slice_index cells (128 * t + k))

-- the state accepts what the program does from the place `start` on
pub record BeginsTexts (code : List Instruction) (states : List State) (start at : ℕ) : Type 0 where
  pub has_state : HasState states at
  pub accepts : (s : List ℕ) → Accepts code start s ↔ AnyAmong code (places_at states at) s
