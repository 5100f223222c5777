-- Texts that are read back from a pair to the first one.
use Rattle.std.specs.Prelude.{◌≡◌, ◌+◌, ◌<◌, ℕ, List, Some, length, slice_get}
use Rattle.wax_compare.specs.declared.pairs.Reached.{Reached}
use Rattle.wax_compare.specs.{inner.Reaching.{AreReachedPairs, GoesAt, Readings}, inner.Visiting.EndsAt}

-- each pair but the first one came from an earlier one
abbrev pub AreEarlier : List Reached → Type 0
AreEarlier reached = (i : ℕ) (x : Reached) → 0 < i → slice_get reached i ≡ Some x → x.before < i

-- so far, from a pair on: whatever the pairs are pairs of, a text that led there is wanted, if it goes on so
abbrev pub IsReadFrom : List Reached → ℕ → ℕ → ℕ → List ℕ → Type 0
IsReadFrom reached from last at s = (r : Readings) (x y : Reached) → AreReachedPairs r reached
    → EndsAt r reached from last → slice_get reached at ≡ Some x → slice_get reached from ≡ Some y
    → GoesAt r x s × (length s + x.depth ≡ y.depth + 1)

-- this holds of the first pair
abbrev pub IsReadBack : List Reached → ℕ → ℕ → List ℕ → Type 0
IsReadBack reached from last s = IsReadFrom reached from last 0 s
