-- Sets of places in a program, as flags.
use Rattle.std.specs.Prelude.{◌≡◌, ◌≢◌, ℕ, ◌+◌, ◌-◌, ◌<◌, ◌≤◌, ◌*◌, Bool, ◌⊎◌, ◌↔◌, List, [], ◌∷◌, length}
use Rattle.std.specs.Prelude.{Contains, Some, slice_get}
use Rattle.wax_program.specs.Places.{HoldsPlace, Within, member_count}
use Rattle.wax_program.specs.declared.instruction.Instruction.{Instruction}
use Rattle.wax_program.specs.declared.instruction.Instruction.TheVariants.{Check, Repeat, Components, Fork}
use Rattle.wax_program.specs.declared.instruction.Instruction.TheVariants.{Jump, Back, End}
use Rattle.wax_program.specs.Machine.{PassesTest, Accepts, mark}

-- the sets at a position of the text, for a program of `size` instructions: the places that are still to
-- be read here, those that were read here, and those of the next position. The place `size` is that of the
-- program's end, where nothing is read
pub record Position : Type 0 where
  pub size : ℕ
  pub pending : List Bool
  pub read : List Bool
  pub next : List Bool

-- each of the places is in one of the parts, which have no others
abbrev pub AreParts : List ℕ → List ℕ → List ℕ → Type 0
AreParts places part other = (k : ℕ) → Contains places k ↔ (Contains part k ⊎ Contains other k)

-- only the program's end is left, at most
abbrev pub IsDone : Position → Type 0
IsDone p = (k : ℕ) → HoldsPlace p.pending k → p.size ≤ k

-- the place is still to be read here, or was
abbrev pub IsReached : Position → ℕ → Type 0
IsReached p k = HoldsPlace p.pending k ⊎ HoldsPlace p.read k

-- the sets have room for the program and its end and no place beyond it; a place to be read was not read,
-- and none lies below the first word
pub record AreSets (size first : ℕ) (pending read next : List Bool) : Type 0 where
  pub pending_room : size < length pending
  pub read_room : size < length read
  pub next_room : size < length next
  pub pending_within : Within (size + 1) pending
  pub read_within : Within size read
  pub next_within : Within (size + 1) next
  pub apart : (k : ℕ) → HoldsPlace pending k → HoldsPlace read k → ⊥
  pub above : (k : ℕ) → HoldsPlace pending k → 64 * first ≤ k

-- the place was to be read, and counts as read
pub record Taken (old new : Position) (k : ℕ) : Type 0 where
  pub size : new.size ≡ old.size
  pub below : k < old.size
  pub next : new.next ≡ old.next
  pub held : HoldsPlace old.pending k
  pub others : (x : ℕ) → HoldsPlace old.pending x → HoldsPlace new.pending x ⊎ (x ≡ k)
  pub fewer : (x : ℕ) → HoldsPlace new.pending x → HoldsPlace old.pending x
  pub reads : HoldsPlace new.read k
  pub keeps : (x : ℕ) → HoldsPlace old.read x → HoldsPlace new.read x
  pub only : (x : ℕ) → HoldsPlace new.read x → HoldsPlace old.read x ⊎ (x ≡ k)
  pub counted : member_count new.read ≡ member_count old.read + 1

-- the place is reached, if the program or its end has it, and nothing else is new
pub record Inserted (old new : Position) (at : ℕ) : Type 0 where
  pub size : new.size ≡ old.size
  pub read : new.read ≡ old.read
  pub next : new.next ≡ old.next
  pub adds : at ≤ old.size → IsReached new at
  pub keeps : (k : ℕ) → HoldsPlace old.pending k → HoldsPlace new.pending k
  pub only : (k : ℕ) → HoldsPlace new.pending k → HoldsPlace old.pending k ⊎ (k ≡ at)

-- the same for the next position
pub record InsertedNext (old new : Position) (at : ℕ) : Type 0 where
  pub size : new.size ≡ old.size
  pub pending : new.pending ≡ old.pending
  pub read : new.read ≡ old.read
  pub adds : at ≤ old.size → HoldsPlace new.next at
  pub keeps : (k : ℕ) → HoldsPlace old.next k → HoldsPlace new.next k
  pub only : (k : ℕ) → HoldsPlace new.next k → HoldsPlace old.next k ⊎ (k ≡ at)

-- some place of the set accepts the text
abbrev pub AnyOf : List Instruction → List Bool → List ℕ → Type 0
AnyOf code set s = (k : ℕ) × HoldsPlace set k × Accepts code k s

-- the set accepts every text or none
abbrev pub AcceptsAllOrNone : List Instruction → List Bool → Type 0
AcceptsAllOrNone code set = (s : List ℕ) → AnyOf code set s ↔ AnyOf code set []

-- one of the places accepts the text
abbrev pub AnyAmong : List Instruction → List ℕ → List ℕ → Type 0
AnyAmong code places s = (k : ℕ) × Contains places k × Accepts code k s

-- the place is reached, if the program or its end has it
abbrev pub ReachedBelow : Position → ℕ → Type 0
ReachedBelow p k = k ≤ p.size → IsReached p k

-- where the instruction at k leads by the character c is in the sets
abbrev pub Led : Instruction → ℕ → ℕ → Position → Type 0
Led (Check t) c k p = PassesTest t c → k + 1 ≤ p.size → HoldsPlace p.next (k + 1)
Led (Repeat t) c k p = ReachedBelow p (k + 1) × (PassesTest t c → k ≤ p.size → HoldsPlace p.next k)
Led Components c k p =
    (k ≤ p.size → HoldsPlace p.next k) × (c ≡ 47 → k + 1 ≤ p.size → HoldsPlace p.next (k + 1))
Led (Fork n) c k p = ReachedBelow p (k + 1) × ReachedBelow p (k + 1 + n)
Led (Jump n) c k p = ReachedBelow p (k + 1 + n)
Led (Back n) c k p = ReachedBelow p (k - n)
Led (End low high) c k p = (number : ℕ) → c ≢ mark number

-- the same for whichever instruction is at k
abbrev pub Handled : List Instruction → ℕ → Position → ℕ → Type 0
Handled code c p k = (i : Instruction) → slice_get code k ≡ Some i → Led i c k p

-- one place was followed by the character c
pub record Followed (code : List Instruction) (c k : ℕ) (old new : Position) : Type 0 where
  pub size : new.size ≡ old.size
  pub read : new.read ≡ old.read
  pub handled : Handled code c new k
  pub keeps : (x : ℕ) → HoldsPlace old.pending x → HoldsPlace new.pending x
  pub keeps_next : (x : ℕ) → HoldsPlace old.next x → HoldsPlace new.next x
  pub only : (x : ℕ) → HoldsPlace new.pending x
      → HoldsPlace old.pending x ⊎ ((s : List ℕ) → Accepts code x s → Accepts code k s)
  pub only_next : (x : ℕ) → HoldsPlace new.next x
      → HoldsPlace old.next x ⊎ ((s : List ℕ) → Accepts code x s → Accepts code k (c ∷ s))

-- the places that were read are followed, and all of them come from the old set
pub record Round (code : List Instruction) (c : ℕ) (old : List Bool) (p : Position) : Type 0 where
  pub begins : (k : ℕ) → HoldsPlace old k → IsReached p k
  pub within : (k : ℕ) → HoldsPlace p.read k → k < p.size
  pub handled : (k : ℕ) → HoldsPlace p.read k → Handled code c p k
  pub no_more : (k : ℕ) → IsReached p k → (s : List ℕ) → Accepts code k s → AnyOf code old s
  pub no_more_next : (k : ℕ) → HoldsPlace p.next k → (s : List ℕ) → Accepts code k s → AnyOf code old (c ∷ s)

-- the old set accepts a text that begins with the character exactly where the next set accepts the rest
pub record Advances (code : List Instruction) (c : ℕ) (old next : List Bool) : Type 0 where
  pub onward : (s : List ℕ) → AnyOf code old (c ∷ s) → AnyOf code next s
  pub backward : (s : List ℕ) → AnyOf code next s → AnyOf code old (c ∷ s)

-- the set accepts what is left exactly where the program accepts the whole from the place `start` on
pub record Stays (code : List Instruction) (start : ℕ) (text left : List ℕ) (set : List Bool) : Type 0 where
  pub onward : Accepts code start text → AnyOf code set left
  pub backward : AnyOf code set left → Accepts code start text
