-- Flags of places, and where instructions lead by them.
use Rattle.std.specs.Prelude.{◌≡◌, ◌↔◌, ◌+◌, ◌-◌, ◌<◌, ◌≤◌, ◌⊎◌, ℕ, zero, suc, ⊤, List, Option, Some, None}
use Rattle.std.specs.Prelude.{length, slice_get}
use Rattle.wax_program.specs.Places.{HoldsPlace, Within, member_count}
use Rattle.wax_program.specs.declared.instruction.Instruction.{Instruction}
use Rattle.wax_program.specs.declared.instruction.Instruction.TheVariants.{Check, Repeat, Components, Fork}
use Rattle.wax_program.specs.declared.instruction.Instruction.TheVariants.{Jump, Back, End}
use Rattle.wax_program.specs.{declared.instruction.Test.Test, declared.onward.Ahead.Ahead}
use Rattle.wax_program.specs.{declared.onward.Ahead.TheVariants.{Rest, Path, Below}, Machine.PassesTest}
use Rattle.wax_program.specs.Onward.{AreFlagsOf, PlaceFlags, GoesOn, TakesOther, flags_for}

-- what follows after `/`
abbrev pub onward_by_slash : Ahead → Option Ahead
onward_by_slash Rest = Some Path
onward_by_slash Path = None
onward_by_slash Below = Some Path

-- the place has the flag
abbrev pub Holds : PlaceFlags → Ahead → ℕ → Type 0
Holds f m k = HoldsPlace (flags_for m f) k

abbrev pub HoldsAfter : PlaceFlags → Option Ahead → ℕ → Type 0
HoldsAfter f None k = ⊥
HoldsAfter f (Some m) k = Holds f m k

-- the flags for one name fewer, or the same ones without a limit
abbrev pub earlier_flags : Option PlaceFlags → PlaceFlags → PlaceFlags
earlier_flags None f = f
earlier_flags (Some e) f = e

-- a character other than `/` leads to the place: the first one of a path leaves one name fewer
abbrev pub HoldsByOther : Option PlaceFlags → PlaceFlags → Ahead → ℕ → Type 0
HoldsByOther o f Rest k = Holds f Rest k
HoldsByOther o f Path k = Holds (earlier_flags o f) Rest k
HoldsByOther o f Below k = ⊥

-- a character that passes the test leads to a place with the flag
abbrev pub LeadsBy : Test → Option PlaceFlags → PlaceFlags → Ahead → ℕ → Type 0
LeadsBy t o f m k = (TakesOther t × HoldsByOther o f m k)
    ⊎ (PassesTest t 47 × HoldsAfter f (onward_by_slash m) k)

-- the instruction at k leads to a place with the flag
abbrev pub LeadsOn : Instruction → Option PlaceFlags → PlaceFlags → Ahead → ℕ → Type 0
LeadsOn (Check t) o f m k = LeadsBy t o f m (k + 1)
LeadsOn (Repeat t) o f m k = Holds f m (k + 1) ⊎ LeadsBy t o f m k
LeadsOn Components o f m k =
    HoldsByOther o f m k
    ⊎ (HoldsAfter f (onward_by_slash m) k ⊎ HoldsAfter f (onward_by_slash m) (k + 1))
LeadsOn (Fork n) o f m k = Holds f m (k + 1) ⊎ Holds f m (k + 1 + n)
LeadsOn (Jump n) o f m k = Holds f m (k + 1 + n)
LeadsOn (Back n) o f m k = Holds f m (k - n)
LeadsOn (End low high) o f m k = ⊥

-- flags for one name fewer than the limit, if there is one
abbrev pub IsEarlier : List Instruction → Option ℕ → Option PlaceFlags → Type 0
IsEarlier code None None = ⊤
IsEarlier code None (Some e) = ⊥
IsEarlier code (Some zero) None = ⊥
IsEarlier code (Some zero) (Some e) = (k : ℕ) → Holds e Rest k → ⊥
IsEarlier code (Some (suc less)) None = ⊥
IsEarlier code (Some (suc less)) (Some e) = (k : ℕ) → Holds e Rest k ↔ GoesOn code (Some less) Rest k

-- each flag is that of a place from which some text of its kind is accepted
abbrev pub AreSound : List Instruction → Option ℕ → PlaceFlags → Type 0
AreSound code most f = (m : Ahead) (k : ℕ) → Holds f m k → GoesOn code most m k

-- for each limit that these are the earlier flags of
abbrev pub AreSoundAfter : List Instruction → Option PlaceFlags → PlaceFlags → Type 0
AreSoundAfter code o f = (most : Option ℕ) → IsEarlier code most o → AreSound code most f

abbrev pub AreFlagsAfter : List Instruction → Option PlaceFlags → PlaceFlags → Type 0
AreFlagsAfter code o f = (most : Option ℕ) → IsEarlier code most o → AreFlagsOf code most f

-- the place has each flag to which its instruction leads
abbrev pub IsClosedFor : List Instruction → Option PlaceFlags → PlaceFlags → Ahead → ℕ → Type 0
IsClosedFor code o f m k = (i : Instruction) → slice_get code k ≡ Some i → LeadsOn i o f m k → Holds f m k

abbrev pub IsClosedAt : List Instruction → Option PlaceFlags → PlaceFlags → ℕ → Type 0
IsClosedAt code o f k = (m : Ahead) → IsClosedFor code o f m k

-- the instruction at the place leads to one with the flag
abbrev pub LeadsAt : List Instruction → Option PlaceFlags → PlaceFlags → Ahead → ℕ → Type 0
LeadsAt code o f m k = (i : Instruction) × (slice_get code k ≡ Some i) × LeadsOn i o f m k

-- there is room for the flags of each place, and no other place has one
pub record HaveRoom (f : PlaceFlags) : Type 0 where
  pub rest : f.size < length f.rest
  pub path : f.size < length f.path
  pub below : f.size < length f.below
  pub rest_within : Within (f.size + 1) f.rest
  pub path_within : Within (f.size + 1) f.path
  pub below_within : Within (f.size + 1) f.below

abbrev pub flag_count : PlaceFlags → ℕ
flag_count f = member_count f.rest + member_count f.path + member_count f.below

-- the flag was added where it was missing, and nothing else is new
pub record Marks (old new : PlaceFlags) (m : Ahead) (k : ℕ) : Type 0 where
  pub size : new.size ≡ old.size
  pub keeps : (n : Ahead) (x : ℕ) → Holds old n x → Holds new n x
  pub has : Holds new m k
  pub only : (n : Ahead) (x : ℕ) → Holds new n x → Holds old n x ⊎ ((n ≡ m) × (x ≡ k))
  pub counted : flag_count new ≡ flag_count old + 1

-- flags were added, each of which is right if those before are
pub record Gains (code : List Instruction) (o : Option PlaceFlags) (old new : PlaceFlags) : Type 0 where
  pub size : new.size ≡ old.size
  pub keeps : (m : Ahead) (k : ℕ) → Holds old m k → Holds new m k
  pub sound : AreSoundAfter code o old → AreSoundAfter code o new
  pub counted : flag_count old ≤ flag_count new

-- the flags of the level after these, which are found from those of the last one
pub record IsNextLevel (code : List Instruction) (levels : List PlaceFlags) (f : PlaceFlags) : Type 0 where
  pub flags : AreFlagsOf code (Some (length levels)) f
  pub after : (n : ℕ) (e : PlaceFlags) → length levels ≡ n + 1 → slice_get levels n ≡ Some e
      → AreFlagsAfter code (Some e) f

-- the last level has each place that goes on in a name by these flags
abbrev pub HoldLast : List PlaceFlags → PlaceFlags → Type 0
HoldLast levels f = (n : ℕ) × (e : PlaceFlags) × (length levels ≡ n + 1) × (slice_get levels n ≡ Some e)
    × ((k : ℕ) → Holds f Rest k → Holds e Rest k)
