-- The slots of an index, in which numbers are found from a hash on.
use Rattle.std.specs.Prelude.{◌≡◌, ◌≢◌, ◌+◌, ◌*◌, ◌/◌, ◌%◌, ◌^◌, ◌<◌, ℕ, List, [], ◌∷◌, Some, length}
use Rattle.std.specs.Prelude.{slice_get, slice_index}

-- the hash with a place more
abbrev pub hash_with : ℕ → ℕ → ℕ
hash_with hash place = ((hash + place) % 2 ^ 64 * 11400714819323198485) % 2 ^ 64

abbrev pub hash_from : ℕ → List ℕ → ℕ
hash_from hash [] = hash
hash_from hash (place ∷ places) = hash_from (hash_with hash place) places

-- the hash of the places: the upper 24 bits
abbrev pub hash_of : List ℕ → ℕ
hash_of places = hash_from 0 places / 2 ^ 40

-- the index of the slot that is looked at after `probe` others
abbrev pub slot_index : ℕ → ℕ → ℕ → ℕ
slot_index slots hash probe = (hash + probe) % 2 ^ 64 % slots

-- that slot
abbrev pub slot_after : List ℕ → ℕ → ℕ → ℕ
slot_after slots hash probe = slice_index slots (slot_index (length slots) hash probe)

-- the number is in a slot from the hash on, and no slot before that is empty
pub record IsEntered (slots : List ℕ) (hash number : ℕ) : Type 0 where
  pub probe : ℕ
  pub within : probe < length slots
  pub there : slot_after slots hash probe ≡ number
  pub before : (q : ℕ) → q < probe → slot_after slots hash q ≢ 0

-- the numbers that were entered still are
abbrev pub KeepsEntered : List ℕ → List ℕ → Type 0
KeepsEntered old new = (hash t : ℕ) → IsEntered old hash (t + 1) → IsEntered new hash (t + 1)

-- none of the slots before `probe` is empty
abbrev pub IsFull : List ℕ → ℕ → ℕ → Type 0
IsFull slots hash probe = (q : ℕ) → q < probe → slot_after slots hash q ≢ 0

-- and none has the number of a state with these places
abbrev pub NoneFoundBefore : List ℕ → List (List ℕ) → List ℕ → ℕ → Type 0
NoneFoundBefore slots lists places probe = (q : ℕ) → q < probe → (slot_after slots (hash_of places) q ≢ 0)
    × ((t : ℕ) → slot_after slots (hash_of places) q ≡ t + 1 → slice_get lists t ≢ Some places)
