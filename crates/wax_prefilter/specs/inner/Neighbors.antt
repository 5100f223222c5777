-- Numbers of neighboring bytes. Only private functions cite this file.
use Rattle.std.specs.Prelude.{◌≡◌, ◌<◌, ◌+◌, ◌*◌, ◌%◌, ℕ, Bool, true, false, List, get_or, length}
use Rattle.std.specs.Prelude.{slice_index}

abbrev pub neighbors_number : ℕ → ℕ → ℕ
neighbors_number first second = (first + 32 * second) % 1024

-- each two neighbors of the text have a number at which the flag is set
abbrev pub AreNeighbors : List ℕ → List Bool → Type 0
AreNeighbors text flags = (k : ℕ) → k + 1 < length text
    → get_or flags (neighbors_number (slice_index text k) (slice_index text (k + 1))) false ≡ true
