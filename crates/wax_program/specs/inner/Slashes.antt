-- The last `/` of some bytes. Only private functions cite this file.
use Rattle.std.specs.Prelude.{◌≡◌, ◌≢◌, ◌≤◌, ◌<◌, ◌-◌, ◌==◌, ℕ, Bool, List, length, slice_index}

abbrev pub is_slash : ℕ → Bool
is_slash b = b == 47

-- no `/` is at this place or after it
abbrev pub NoSlashFrom : ℕ → List ℕ → Type 0
NoSlashFrom at bytes = (k : ℕ) → at ≤ k → k < length bytes → slice_index bytes k ≢ 47

-- the last name begins at this place: after the last `/`, or at the beginning if there is none
pub record LastNameAt (at : ℕ) (bytes : List ℕ) : Type 0 where
  pub inside : at ≤ length bytes
  pub after : 0 < at → slice_index bytes (at - 1) ≡ 47
  pub none : NoSlashFrom at bytes
