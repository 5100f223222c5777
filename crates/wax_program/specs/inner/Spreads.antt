-- Flags that spread to the places that lead to them.
use Rattle.std.specs.Prelude.{◌≡◌, ◌+◌, ◌<◌, ◌≤◌, ◌⊎◌, ℕ, List, Option, Some, Contains, length, slice_get}
use Rattle.wax_program.specs.{Onward.PlaceFlags, declared.instruction.Instruction.Instruction}
use Rattle.wax_program.specs.declared.instruction.Instruction.TheVariants.{Check, Repeat, Components, Fork}
use Rattle.wax_program.specs.declared.instruction.Instruction.TheVariants.{Jump, Back, End}
use Rattle.wax_program.specs.{declared.onward.Ahead.Ahead, inner.Jumps.IsJump}
use Rattle.wax_program.specs.inner.Leads.{Gains, Holds, HoldsAfter, HoldsByOther, LeadsAt, LeadsBy}
use Rattle.wax_program.specs.inner.Leads.{flag_count, onward_by_slash}

-- the place has the flag if the other has it
abbrev pub HasFlagOf : PlaceFlags → Ahead → ℕ → ℕ → Type 0
HasFlagOf f m k other = Holds f m other → Holds f m k

-- the new flags have each one to which the place's instruction leads by the old ones
abbrev pub HasReached : List Instruction → Option PlaceFlags → PlaceFlags → PlaceFlags → ℕ → Type 0
HasReached code o old new k = (m : Ahead) → LeadsAt code o old m k → Holds new m k

-- flags were added, at places that are due since then
pub record Spreads (code : List Instruction) (o : Option PlaceFlags) (old : PlaceFlags) (due : List ℕ)
    (new : PlaceFlags) (new_due : List ℕ) : Type 0 where
  pub gains : Gains code o old new
  pub keeps : (k : ℕ) → Contains due k → Contains new_due k
  pub below : (k : ℕ) → Contains new_due k → Contains due k ⊎ (k < length code)
  pub only : (m : Ahead) (k : ℕ) → Holds new m k → Holds old m k ⊎ Contains new_due k
  pub paid : length new_due + flag_count old ≤ length due + flag_count new

-- the instruction at k leads to the flag by the flags of k or of the next place
abbrev pub LeadsNear : Instruction → Option PlaceFlags → PlaceFlags → Ahead → ℕ → Type 0
LeadsNear (Check t) o f m k = LeadsBy t o f m (k + 1)
LeadsNear (Repeat t) o f m k = Holds f m (k + 1) ⊎ LeadsBy t o f m k
LeadsNear Components o f m k =
    HoldsByOther o f m k
    ⊎ (HoldsAfter f (onward_by_slash m) k ⊎ HoldsAfter f (onward_by_slash m) (k + 1))
LeadsNear (Fork n) o f m k = Holds f m (k + 1)
LeadsNear (Jump n) o f m k = ⊥
LeadsNear (Back n) o f m k = ⊥
LeadsNear (End low high) o f m k = ⊥

-- from this place on, one lacks a flag to which its instruction leads only if a place that has it is due
pub record AreSpreadFrom (code : List Instruction) (o : Option PlaceFlags) (start : ℕ) (f : PlaceFlags)
    (IsDue : ℕ → Type 0) : Type 0 where
  pub near : (m : Ahead) (k : ℕ) (i : Instruction) → start ≤ k → slice_get code k ≡ Some i
      → LeadsNear i o f m k → Holds f m k ⊎ (IsDue k ⊎ IsDue (k + 1))
  pub jumps : (m : Ahead) (k p : ℕ) → start ≤ k → IsJump code k p → Holds f m p → Holds f m k ⊎ IsDue p

abbrev pub AreSpread : List Instruction → Option PlaceFlags → PlaceFlags → (ℕ → Type 0) → Type 0
AreSpread code o f IsDue = AreSpreadFrom code o 0 f IsDue
