-- Sets of places that most characters leave as they are.
use Rattle.std.specs.Prelude.{◌≡◌, ◌≢◌, ◌<◌, ◌⊎◌, ◌↔◌, ℕ, Bool, List, Option, Some, IsTrue, length, slice_get}
use Rattle.std.specs.Prelude.{⊤}
use Rattle.wax_program.specs.declared.instruction.Test.{Test}
use Rattle.wax_program.specs.declared.instruction.Test.TheVariants.{Char, NotSlash, Any}
use Rattle.wax_program.specs.declared.instruction.Instruction.{Instruction}
use Rattle.wax_program.specs.declared.instruction.Instruction.TheVariants.{Check, Repeat, Components, Fork}
use Rattle.wax_program.specs.declared.instruction.Instruction.TheVariants.{Jump, Back, End}
use Rattle.wax_program.specs.{declared.steady.Steady.Steady, declared.steady.Watched.Watched}
use Rattle.wax_program.specs.{declared.steady.Watched.TheVariants.{Nothing, CheckAt, Unknown}, Bits.places_of}
use Rattle.wax_program.specs.{Machine.{PassesTest, mark}, Threads.Advances}

-- no check at the place takes the character
abbrev pub Misses : List Instruction → ℕ → ℕ → Type 0
Misses code k c = (t : Test) → slice_get code k ≡ Some (Check t) → PassesTest t c → ⊥

-- the set leads to itself by each character but `/` that the check at `watch` doesn't take
abbrev pub IsSteady : List Instruction → List Bool → ℕ → Type 0
IsSteady code set watch = (d : ℕ) → d ≢ 47 → Misses code watch d → Advances code d set set

-- the set leads to itself by each character
abbrev pub IsAbsorbing : List Instruction → List Bool → Type 0
IsAbsorbing code set = (d : ℕ) → Advances code d set set

-- such a set of the program, and by which characters it is known to lead to itself
pub record IsKnown (code : List Instruction) (s : Steady) : Type 0 where
  pub below : s.watch < length code
  pub steady : IsSteady code (places_of s.word) s.watch
  pub slash : IsTrue s.by_slash → Advances code 47 (places_of s.word) (places_of s.word)
  pub others : IsTrue s.by_others → (d : ℕ) → d ≢ 47 → Advances code d (places_of s.word) (places_of s.word)

-- the instruction does the same by both characters
abbrev pub Alike : Instruction → ℕ → ℕ → Type 0
Alike (Check t) c d = PassesTest t c ↔ PassesTest t d
Alike (Repeat t) c d = PassesTest t c ↔ PassesTest t d
Alike Components c d = (c ≡ 47) ↔ (d ≡ 47)
Alike (Fork n) c d = ⊤
Alike (Jump n) c d = ⊤
Alike (Back n) c d = ⊤
Alike (End low high) c d = (number : ℕ) → (c ≡ mark number) ↔ (d ≡ mark number)

-- the watched check doesn't take the character
abbrev pub MissesWatched : List Instruction → Watched → ℕ → Type 0
MissesWatched code Nothing d = ⊤
MissesWatched code (CheckAt k) d = Misses code k d
MissesWatched code Unknown d = ⊥

-- the instruction at k does by each such character what it does by c
abbrev pub ActsAlike : List Instruction → ℕ → Watched → ℕ → Type 0
ActsAlike code c watch k = (i : Instruction) → slice_get code k ≡ Some i
    → (d : ℕ) → c ≢ 47 → d ≢ 47 → MissesWatched code watch d → Alike i c d

-- the instruction at k was read, and what was watched still is
pub record Noted (code : List Instruction) (c k : ℕ) (old new : Watched) : Type 0 where
  pub stricter : (d : ℕ) → MissesWatched code new d → MissesWatched code old d
  pub covers : ActsAlike code c new k

-- a check at k that doesn't take the round's character is watched, if it asks for more than `/`
abbrev pub NotedMiss : Watched → Watched → ℕ → Test → Type 0
NotedMiss old new k t =
    ((new ≡ old) × (t ≡ Char 47)) ⊎ ((new ≡ Unknown) ⊎ ((old ≡ Nothing) × (new ≡ CheckAt k)))

-- a repeated test is one that takes each character but `/`, or it isn't known any more what is watched
abbrev pub NotedRepeat : Watched → Watched → Test → Type 0
NotedRepeat old new t = ((new ≡ old) × ((t ≡ NotSlash) ⊎ (t ≡ Any))) ⊎ (new ≡ Unknown)

-- a round by c with that watch led from the set back to it
pub record LedBack (code : List Instruction) (c : ℕ) (next : List Bool) (here : Option ℕ) (watch : Watched)
    (s : Steady) : Type 0 where
  pub other : c ≢ 47
  pub back : next ≡ places_of s.word
  pub began : here ≡ Some s.word
  pub below : s.watch < length code
  pub misses : (d : ℕ) → Misses code s.watch d → MissesWatched code watch d
  pub not_by_slash : IsTrue s.by_slash → ⊥
  pub others : IsTrue s.by_others → (d : ℕ) → MissesWatched code watch d
