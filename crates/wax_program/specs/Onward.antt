-- What may follow from a place of a program on.
use Rattle.std.specs.Prelude.{◌≡◌, ◌≢◌, ◌↔◌, ◌⊎◌, ℕ, ◌+◌, ◌<◌, ◌≤◌, Bool, IsTrue, true, false, List, ◌∷◌}
use Rattle.std.specs.{Prelude.{Option, Some, length, slice_get, if◌then◌else◌}, Char.IsScalar, List.list_any}
use Rattle.std.specs.Str.{all_scalars}
use Rattle.unicode.specs.CaseFolding.{simple_fold}
use Rattle.wax_program.specs.{Places.HoldsPlace, declared.instruction.Instruction.Instruction}
use Rattle.wax_program.specs.{declared.instruction.Test.Test, declared.onward.Ahead.Ahead}
use Rattle.wax_program.specs.declared.onward.Ahead.TheVariants.{Rest, Path, Below}
use Rattle.wax_program.specs.{Machine.{PassesTest, Accepts}, Tests.test_of}
use Rattle.wax_query.specs.Below.{IsPathWithin, ends_open, one_more_name}
use Rattle.wax_token.specs.{Meaning.{in_archetype, in_class}, declared.token.Archetype.Archetype}

-- a character other than `/`
abbrev pub IsOther : ℕ → Type 0
IsOther c = IsScalar c × (c ≢ 47)

-- some character other than `/` passes the test
abbrev pub TakesOther : Test → Type 0
TakesOther t = (c : ℕ) × IsOther c × PassesTest t c

-- the case folding of some character other than `/`
abbrev pub FoldsOther : ℕ → Type 0
FoldsOther d = (c : ℕ) × IsOther c × (d ≡ simple_fold c)

-- the class has a character, which isn't `/`
abbrev pub HoldsOther : Bool → List Archetype → Type 0
HoldsOther negated xs = (c : ℕ) × IsOther c × (in_class negated xs c ≡ true)

-- one of the archetypes has a character other than `/`; none of them has some character other than `/`
abbrev pub ListsOther : List Archetype → Type 0
ListsOther xs = (c : ℕ) × IsOther c × (list_any (in_archetype c) xs ≡ true)

abbrev pub LeavesOther : List Archetype → Type 0
LeavesOther xs = (c : ℕ) × IsOther c × (list_any (in_archetype c) xs ≡ false)

-- each flag is set exactly if a character other than `/` passes the test of the instruction at that place
abbrev pub AreOthers : List Instruction → List Bool → Type 0
AreOthers code flags = (k : ℕ) (i : Instruction) (t : Test) → slice_get code k ≡ Some i → test_of i ≡ Some t
    → HoldsPlace flags k ↔ TakesOther t

-- the text is what is left of a plain path after a character of a name, with at most so many names more; a
-- plain path of at most so many names; or one after a `/`
abbrev pub IsLeft : Option ℕ → Ahead → List ℕ → Type 0
IsLeft most Rest s = (c : ℕ) × IsPathWithin (one_more_name most) (c ∷ s)
IsLeft most Path s = IsPathWithin most s
IsLeft most Below s = (path : List ℕ) × IsPathWithin most path × (s ≡ 47 ∷ path)

-- and it consists of characters
abbrev pub IsAhead : Option ℕ → Ahead → List ℕ → Type 0
IsAhead most m s = (all_scalars s ≡ true) × IsLeft most m s

-- what follows a folder's text in the texts of what is below it
abbrev pub ahead_of : List ℕ → Ahead
ahead_of folder = if ends_open folder then Path else Below

-- from the place on, some text of this kind is accepted that has at most so many names, if there is a limit
abbrev pub GoesOn : List Instruction → Option ℕ → Ahead → ℕ → Type 0
GoesOn code most m k = (s : List ℕ) × IsAhead most m s × Accepts code k s

-- for a program of `size` instructions, the places from which some text of each kind is accepted
pub record PlaceFlags : Type 0 where
  pub size : ℕ
  pub rest : List Bool
  pub path : List Bool
  pub below : List Bool

abbrev pub flags_for : Ahead → PlaceFlags → List Bool
flags_for Rest f = f.rest
flags_for Path f = f.path
flags_for Below f = f.below

-- the flags are exactly those of the program's places
abbrev pub AreFlagsOf : List Instruction → Option ℕ → PlaceFlags → Type 0
AreFlagsOf code most f = (m : Ahead) (k : ℕ) → HoldsPlace (flags_for m f) k ↔ GoesOn code most m k

-- the flags for each limit, from 0 on; if they are complete, the last ones hold for each greater limit, too
pub record LevelFlags : Type 0 where
  pub levels : List PlaceFlags
  pub is_complete : Bool
  -- the places whose instruction takes another character than `/`, once they are known
  pub others : Option (List Bool)

-- the flags for this limit are known
abbrev pub HasLevel : LevelFlags → ℕ → Type 0
HasLevel l most = (most < length l.levels) ⊎ (IsTrue l.is_complete × (0 < length l.levels))

-- they are exactly those of the program's places
pub record AreLevelsOf (code : List Instruction) (l : LevelFlags) : Type 0 where
  pub each : (n : ℕ) (f : PlaceFlags) → slice_get l.levels n ≡ Some f → AreFlagsOf code (Some n) f
  pub beyond : IsTrue l.is_complete → (n most : ℕ) (f : PlaceFlags) → length l.levels ≡ n + 1 → n ≤ most
      → slice_get l.levels n ≡ Some f → AreFlagsOf code (Some most) f
  pub others : (flags : List Bool) → l.others ≡ Some flags
      → (length code < length flags) × AreOthers code flags
