-- States, which are places that were reached, and where characters lead from them.
use Rattle.std.specs.Prelude.{◌≡◌, ℕ, ◌+◌, ◌<◌, ◌⊎◌, ◌↔◌, Bool, List, [], ◌∷◌, Option, Some, None, length}
use Rattle.std.specs.{Prelude.{slice_get, slice_set}, Global.Vec}
use Rattle.wax_states.specs.declared.table.Next.{Next}
use Rattle.wax_states.specs.declared.table.Next.TheVariants.{To, Nothing, Everything}
use Rattle.wax_states.specs.{declared.table.State.State, declared.table.WideCell.WideCell}
use Rattle.wax_program.specs.{declared.instruction.Instruction.Instruction, Threads.AnyAmong}

-- the places of a state, or none
abbrev pub places_in : Option State → List ℕ
places_in (Some s) = s.places.items
places_in None = []

-- the places of the state with this number
abbrev pub places_at : List State → ℕ → List ℕ
places_at states t = places_in (slice_get states t)

-- the places of a state, if there is one
abbrev pub places_or_none : List State → Option ℕ → List ℕ
places_or_none states (Some t) = places_at states t
places_or_none states None = []

-- some of the places accept a text that begins with the character exactly where some of the others accept
-- the rest
abbrev pub LeadOn : List Instruction → ℕ → List ℕ → List ℕ → Type 0
LeadOn code c places others = (s : List ℕ) → AnyAmong code places (c ∷ s) ↔ AnyAmong code others s

-- the same state, with what is said of the texts that end there
abbrev pub with_said : State → Option Bool → Option (Vec ℕ) → State
with_said s accepts numbers =
    record { places = s.places; own = s.own; failure = s.failure; accepts = accepts; numbers = numbers }

-- the state with this number says now what these functions of it say of the texts that end there
abbrev pub IsSettled : List State → List State → ℕ → (State → Option Bool) → (State → Option (Vec ℕ)) → Type 0
IsSettled old new t accepts numbers = (s : State) × (slice_get old t ≡ Some s)
    × (new ≡ slice_set old t (with_said s (accepts s) (numbers s)))

-- there is a state with this number
abbrev pub HasState : List State → ℕ → Type 0
HasState states t = t < length states

-- from the places the character leads to the state with this number
pub record LeadsTo (code : List Instruction) (states : List State) (places : List ℕ) (c t : ℕ) : Type 0 where
  pub has_state : HasState states t
  pub leads : LeadOn code c places (places_at states t)

-- from the places no text is accepted that begins with the character
abbrev pub IsDead : List Instruction → List ℕ → ℕ → Type 0
IsDead code places c = (s : List ℕ) → AnyAmong code places (c ∷ s) → ⊥

-- from the places every text is accepted that begins with the character
abbrev pub TakesAll : List Instruction → List ℕ → ℕ → Type 0
TakesAll code places c = (s : List ℕ) → AnyAmong code places (c ∷ s)

-- the next state, if there is one
abbrev pub state_of : Next → Option ℕ
state_of (To t) = Some t
state_of Nothing = None
state_of Everything = None

-- the cell of a character that leads there
abbrev pub cell_of_next : Next → ℕ
cell_of_next (To t) = t + 3
cell_of_next Nothing = 1
cell_of_next Everything = 2

-- where the character leads from the places, or that the rest of the text doesn't matter
abbrev pub LeadsNext : List Instruction → List State → List ℕ → ℕ → Next → Type 0
LeadsNext code states places c (To t) = LeadsTo code states places c t
LeadsNext code states places c Nothing = IsDead code places c
LeadsNext code states places c Everything = TakesAll code places c

-- the cell is empty, or says where the character leads from the places
abbrev pub IsTransition : List Instruction → List State → List ℕ → ℕ → ℕ → Type 0
IsTransition code states places c cell =
    (cell ≡ 0) ⊎ (((cell ≡ 1) × IsDead code places c) ⊎ (((cell ≡ 2) × TakesAll code places c)
    ⊎ ((t : ℕ) × (cell ≡ t + 3) × LeadsTo code states places c t)))

-- each cell of a character past ASCII is empty
abbrev pub AreEmpty : List WideCell → Type 0
AreEmpty ws = (i : ℕ) (w : WideCell) → slice_get ws i ≡ Some w → w.cell ≡ 0

-- this is the cell of the character in the state
abbrev pub IsWideOf : ℕ → ℕ → ℕ → WideCell → Type 0
IsWideOf t c cell w = (w.state ≡ t) × (w.character ≡ c) × (w.cell ≡ cell)

-- the cell of the character in the state is among them
abbrev pub HasWide : List WideCell → ℕ → ℕ → ℕ → Type 0
HasWide ws t c cell = (i : ℕ) × (w : WideCell) × (slice_get ws i ≡ Some w) × IsWideOf t c cell w

-- the cells are as they were, but that one of them may be that of the character in the state
abbrev pub IsWrittenWide : List WideCell → List WideCell → ℕ → ℕ → ℕ → Type 0
IsWrittenWide old new t c cell = (i : ℕ) (w : WideCell) → slice_get new i ≡ Some w
    → (slice_get old i ≡ Some w) ⊎ IsWideOf t c cell w
