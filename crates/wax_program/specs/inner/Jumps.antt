-- The forks and jumps of a program, by the place that they lead to.
use Rattle.std.specs.Prelude.{◌≡◌, ◌+◌, ◌-◌, ◌<◌, ◌≤◌, ℕ, List, Option, Some, None, length, slice_get}
use Rattle.std.specs.Prelude.{slice_index_or}
use Rattle.wax_program.specs.declared.instruction.Instruction.{Instruction}
use Rattle.wax_program.specs.declared.instruction.Instruction.TheVariants.{Check, Repeat, Components, Fork}
use Rattle.wax_program.specs.declared.instruction.Instruction.TheVariants.{Jump, Back, End}

-- the instruction at j leads to k without a character, other than by going on to the next place
abbrev pub JumpsTo : Instruction → ℕ → ℕ → Type 0
JumpsTo (Check t) j k = ⊥
JumpsTo (Repeat t) j k = ⊥
JumpsTo Components j k = ⊥
JumpsTo (Fork n) j k = k ≡ j + 1 + n
JumpsTo (Jump n) j k = k ≡ j + 1 + n
JumpsTo (Back n) j k = k ≡ j - n
JumpsTo (End low high) j k = ⊥

abbrev pub IsJump : List Instruction → ℕ → ℕ → Type 0
IsJump code j k = (i : Instruction) × (slice_get code j ≡ Some i) × JumpsTo i j k

-- the place that is kept for another one, if there is one
abbrev pub link_at : List (Option ℕ) → ℕ → Option ℕ
link_at links k = slice_index_or links k None

-- the place isn't past the one that is kept
abbrev pub IsUpTo : ℕ → Option ℕ → Type 0
IsUpTo j None = ⊥
IsUpTo j (Some k) = j ≤ k

-- of the jumps below `end`, the last one to each place, and the one before each that leads to the same place
pub record AreJumpsBelow (code : List Instruction) (end : ℕ) (last before : List (Option ℕ)) : Type 0 where
  pub last_room : length code < length last
  pub before_room : length before ≡ length code
  pub last_is : (k j : ℕ) → link_at last k ≡ Some j → IsJump code j k × (j < end)
  pub before_is : (k i j : ℕ) → IsJump code i k → link_at before i ≡ Some j → IsJump code j k × (j < i)
  pub all_last : (k j : ℕ) → IsJump code j k → j < end → k ≤ length code → IsUpTo j (link_at last k)
  pub all_before : (k i j : ℕ) → IsJump code i k → i < end → k ≤ length code → IsJump code j k → j < i
      → IsUpTo j (link_at before i)
  pub none : (i : ℕ) → end ≤ i → link_at before i ≡ None

abbrev pub AreJumps : List Instruction → List (Option ℕ) → List (Option ℕ) → Type 0
AreJumps code last before = AreJumpsBelow code (length code) last before
