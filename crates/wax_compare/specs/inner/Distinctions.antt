-- Letters that a program's instructions distinguish.
use Rattle.std.specs.Prelude.{◌≡◌, ◌+◌, ◌-◌, ◌<◌, ◌↔◌, ◌⊎◌, ℕ, Bool, false, IsTrue, List, ◌∷◌, ◌++◌, Some, ⊤}
use Rattle.std.specs.Prelude.{Contains, length, slice_get, slice_index}
use Rattle.wax_program.specs.declared.instruction.Instruction.{Instruction}
use Rattle.wax_program.specs.declared.instruction.Instruction.TheVariants.{Check, Repeat, Components, Fork}
use Rattle.wax_program.specs.declared.instruction.Instruction.TheVariants.{Jump, Back, End}
use Rattle.wax_program.specs.{Machine.PassesTest, Steady.Alike, Threads.AnyAmong}
use Rattle.wax_compare.specs.declared.distinctions.Distinctions.{Distinctions}
use Rattle.wax_compare.specs.declared.distinctions.Exceptions.{Exceptions}

-- whatever follows, it is accepted after the one character exactly if it is after the other
abbrev pub LeadAlike : List Instruction → List ℕ → ℕ → ℕ → Type 0
LeadAlike code places c d = (s : List ℕ) → AnyAmong code places (c ∷ s) ↔ AnyAmong code places (d ∷ s)

abbrev pub IsUnmarked : List Bool → ℕ → Type 0
IsUnmarked marked n = slice_get marked n ≡ Some false

-- the letters that aren't marked lead to the same
abbrev pub MarksOthers : List Instruction → List ℕ → List ℕ → List Bool → Type 0
MarksOthers code letters places marked = (n m : ℕ) → n < length letters → m < length letters
    → IsUnmarked marked n → IsUnmarked marked m
    → LeadAlike code places (slice_index letters n) (slice_index letters m)

-- ---- what is read before a character is taken

-- the list has more at its end
abbrev pub Extends : List ℕ → List ℕ → Type 0
Extends old new = (more : List ℕ) × (new ≡ old ++ more)

-- the place is listed, if the program has it
abbrev pub IsInClosure : List Instruction → List ℕ → ℕ → Type 0
IsInClosure code listed k = k < length code → Contains listed k

-- where the instruction at k leads without a character is listed
abbrev pub GoesTo : List Instruction → List ℕ → ℕ → Instruction → Type 0
GoesTo code listed k (Check t) = ⊤
GoesTo code listed k (Repeat t) = IsInClosure code listed (k + 1)
GoesTo code listed k Components = ⊤
GoesTo code listed k (Fork n) = IsInClosure code listed (k + 1) × IsInClosure code listed (k + 1 + n)
GoesTo code listed k (Jump n) = IsInClosure code listed (k + 1 + n)
GoesTo code listed k (Back n) = IsInClosure code listed (k - n)
GoesTo code listed k (End low high) = ⊤

abbrev pub GoesOnIn : List Instruction → List ℕ → ℕ → Type 0
GoesOnIn code listed k = (i : Instruction) → slice_get code k ≡ Some i → GoesTo code listed k i

-- so far: the places are listed, and so is where the first `done` of the list lead
pub record IsClosing (code : List Instruction) (places listed : List ℕ) (done : ℕ) : Type 0 where
  pub begins : (k : ℕ) → Contains places k → IsInClosure code listed k
  pub closed : (j : ℕ) → j < done → GoesOnIn code listed (slice_index listed j)

-- the list has all that is read from the places on before a character is taken
abbrev pub IsClosure : List Instruction → List ℕ → List ℕ → Type 0
IsClosure code places listed = IsClosing code places listed (length listed)

-- ---- what instructions take

-- the instruction takes the character
abbrev pub TakesCharacter : Instruction → ℕ → Type 0
TakesCharacter (Check t) c = PassesTest t c
TakesCharacter (Repeat t) c = PassesTest t c
TakesCharacter Components c = c ≡ 47
TakesCharacter (Fork n) c = ⊥
TakesCharacter (Jump n) c = ⊥
TakesCharacter (Back n) c = ⊥
TakesCharacter (End low high) c = ⊥

-- each of the first letters is listed, or the instruction takes it exactly if it takes others
abbrev pub AreExceptionsUpTo : List ℕ → Instruction → Bool → List ℕ → ℕ → Type 0
AreExceptionsUpTo letters i takes_others listed end = (n : ℕ) → n < end → Contains listed n
    ⊎ ((slice_index letters n < 1114112) × (TakesCharacter i (slice_index letters n) ↔ IsTrue takes_others))

-- the instruction does the same by all letters that aren't listed
abbrev pub AreExceptions : List ℕ → Instruction → List ℕ → Type 0
AreExceptions letters i listed = (n m : ℕ) → n < length letters → m < length letters
    → (Contains listed n → ⊥) → (Contains listed m → ⊥)
    → Alike i (slice_index letters n) (slice_index letters m)

-- this holds of each instruction of a program that has a row
abbrev pub AreExceptionsOf : List Instruction → List ℕ → List Exceptions → Type 0
AreExceptionsOf code letters rows =
    (k : ℕ) (i : Instruction) (e : Exceptions) → slice_get code k ≡ Some i → slice_get rows k ≡ Some e
    → AreExceptions letters i e.letters.items

-- what each instruction of the program takes, and room for a closure
pub record AreDistinctions (code : List Instruction) (letters : List ℕ) (d : Distinctions) : Type 0 where
  pub room : length d.closure.index.items ≡ length code
  pub long : length d.exceptions.items ≡ length code
  pub rows : AreExceptionsOf code letters d.exceptions.items

-- the exceptions of the instruction at the place are marked
abbrev pub AreMarkedAt : List Exceptions → List Bool → ℕ → Type 0
AreMarkedAt rows marked k = (e : Exceptions) (n : ℕ) → slice_get rows k ≡ Some e → Contains e.letters.items n
    → IsUnmarked marked n → ⊥

-- what isn't marked wasn't, either
abbrev pub KeepsMarks : List Bool → List Bool → Type 0
KeepsMarks old new = (n : ℕ) → IsUnmarked new n → IsUnmarked old n
