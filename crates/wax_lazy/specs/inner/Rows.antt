-- What rows of cells say of a program.
use Rattle.std.specs.Prelude.{◌≡◌, ℕ, ◌+◌, ◌*◌, ◌<◌, ◌⊎◌, List, [], ◌∷◌, ◌++◌, Some, length, slice_get}
use Rattle.std.specs.{Prelude.slice_index, Char.encode_utf8}
use Rattle.wax_lazy.specs.declared.rows.PartialChar.{PartialChar}
use Rattle.wax_lazy.specs.declared.rows.PartialChar.TheVariants.{Zero, One, Two, Three}
use Rattle.wax_lazy.specs.declared.rows.RowKey.{RowKey}
use Rattle.wax_program.specs.declared.instruction.Instruction.{Instruction}
use Rattle.wax_states.specs.declared.table.Next.{Next}
use Rattle.wax_states.specs.declared.table.Next.TheVariants.{To, Nothing, Everything}
use Rattle.wax_states.specs.declared.table.State.{State}
use Rattle.wax_states.specs.States.{IsDead, HasState, LeadsTo, TakesAll, places_at}

-- the bytes of a character that were read
abbrev pub begun_bytes : PartialChar → List ℕ
begun_bytes Zero = []
begun_bytes (One a) = a ∷ []
begun_bytes (Two a b) = a ∷ b ∷ []
begun_bytes (Three a b c) = a ∷ b ∷ c ∷ []

-- the row with this number is for this state, after these bytes
pub record HasRow (keys : List RowKey) (r at : ℕ) (bytes : List ℕ) : Type 0 where
  pub key : RowKey
  pub is : slice_get keys r ≡ Some key
  pub state : key.state ≡ at
  pub begun : begun_bytes key.begun ≡ bytes

-- in the row the byte ends the character
abbrev pub EndsChar : RowKey → ℕ → ℕ → Type 0
EndsChar key b c = begun_bytes key.begun ++ b ∷ [] ≡ encode_utf8 c

-- the byte leads from the row to the one with number r: within a character, or by the one that it ends
abbrev pub LeadsRow : List Instruction → List State → List RowKey → RowKey → ℕ → ℕ → Type 0
LeadsRow code states keys key b r = HasRow keys r key.state (begun_bytes key.begun ++ b ∷ [])
    ⊎ ((c : ℕ) × (at : ℕ) × EndsChar key b c × HasRow keys r at []
    × LeadsTo code states (places_at states key.state) c at)

-- the cell is empty, or says where the byte leads from the row
abbrev pub IsRowCell : List Instruction → List State → List RowKey → RowKey → ℕ → ℕ → Type 0
IsRowCell code states keys key b cell = (cell ≡ 0)
    ⊎ (((cell ≡ 1) × ((c : ℕ) × EndsChar key b c × IsDead code (places_at states key.state) c))
    ⊎ (((cell ≡ 2) × ((c : ℕ) × EndsChar key b c × TakesAll code (places_at states key.state) c))
    ⊎ ((r : ℕ) × (cell ≡ r + 3) × LeadsRow code states keys key b r)))

-- the rows are for states, and each has a right cell for each of 256 bytes
pub record AreRows (code : List Instruction) (states : List State) (keys : List RowKey) (cells : List ℕ) :
    Type 0 where
  pub room : length cells ≡ 256 * length keys
  pub has_state : (r : ℕ) (key : RowKey) → slice_get keys r ≡ Some key → HasState states key.state
  pub says : (r b : ℕ) (key : RowKey) → slice_get keys r ≡ Some key → b < 256
      → IsRowCell code states keys key b (slice_index cells (256 * r + b))

-- the cell is empty, or leads where the next state is
abbrev pub IsCellTo : List RowKey → Next → ℕ → Type 0
IsCellTo keys next cell = (cell ≡ 0) ⊎ (((cell ≡ 1) × (next ≡ Nothing)) ⊎ (((cell ≡ 2) × (next ≡ Everything))
    ⊎ ((r : ℕ) × (at : ℕ) × (cell ≡ r + 3) × (next ≡ To at) × HasRow keys r at [])))
