-- States that are found by their places.
use Rattle.std.specs.Prelude.{◌≡◌, ◌≢◌, ◌+◌, ℕ, List, Some, slice_get}
use Rattle.wax_states.specs.inner.Slots.{IsEntered, hash_of}

-- the number of each state is found from the hash of its places on
abbrev pub AreIndexed : List ℕ → List (List ℕ) → Type 0
AreIndexed slots lists = (t : ℕ) (places : List ℕ) → slice_get lists t ≡ Some places
    → IsEntered slots (hash_of places) (t + 1)

-- none of the lists is this one
abbrev pub HasNone : List (List ℕ) → List ℕ → Type 0
HasNone lists places = (t : ℕ) → slice_get lists t ≢ Some places
