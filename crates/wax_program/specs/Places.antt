-- Sets of numbers as flags: place k is in the set if flag k is set.
use Rattle.std.specs.Prelude.{◌≡◌, ℕ, ◌+◌, ◌<◌, Bool, true, false, List, [], ◌∷◌, slice_index_or}

-- the place is in the set
abbrev pub HoldsPlace : List Bool → ℕ → Type 0
HoldsPlace set k = slice_index_or set k false ≡ true

-- no place is in the set
abbrev pub IsEmpty : List Bool → Type 0
IsEmpty set = (k : ℕ) → HoldsPlace set k → ⊥

-- each place of the set is below the number
abbrev pub Within : ℕ → List Bool → Type 0
Within n set = (k : ℕ) → HoldsPlace set k → k < n

-- how many places are in the set
abbrev pub member_count : List Bool → ℕ
member_count [] = 0
member_count (true ∷ flags) = member_count flags + 1
member_count (false ∷ flags) = member_count flags
