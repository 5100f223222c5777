-- Characters that pass the same tests of a program.
use Rattle.std.specs.Prelude.{◌≡◌, ◌+◌, ◌*◌, ◌%◌, ◌^◌, ◌↔◌, ◌<◌, ◌⊎◌, ℕ, zero, suc, List, Some, IfSome}
use Rattle.std.specs.Prelude.{length, slice_get, slice_index}
use Rattle.wax_program.specs.{declared.instruction.Instruction.Instruction, Machine.PassesTest}
use Rattle.wax_program.specs.{declared.instruction.Test.Test, Tests.test_of}
use Rattle.wax_compare.specs.Cuts.{AreUnlike, HasStandIn}

-- the test of the instruction at the place, if it has one, passes both characters or neither
abbrev pub AgreeAt : List Instruction → ℕ → ℕ → ℕ → Type 0
AgreeAt code at c d =
    (i : Instruction) → slice_get code at ≡ Some i → IfSome (test_of i) (λ t. PassesTest t c ↔ PassesTest t d)

-- this holds of each instruction before a place
abbrev pub AgreeBefore : List Instruction → ℕ → ℕ → ℕ → Type 0
AgreeBefore code end c d = (k : ℕ) → k < end → AgreeAt code k c d

-- one of the kept letters stands for each of the first `end` letters
abbrev pub AreMerged : List Instruction → List Instruction → List ℕ → ℕ → List ℕ → Type 0
AreMerged code other letters end kept = (k : ℕ) → k < end → HasStandIn code other kept (slice_index letters k)

-- ---- digests

-- the instruction at the place has a test that passes the character
abbrev pub PassesAt : List Instruction → ℕ → ℕ → Type 0
PassesAt code at c =
    (i : Instruction) × (t : Test) × (slice_get code at ≡ Some i) × (test_of i ≡ Some t) × PassesTest t c

-- the digest with a place more
abbrev pub stirred : ℕ → ℕ → ℕ
stirred digest at = ((digest * 11400714819323198485) % 2 ^ 64 + at) % 2 ^ 64

-- the digest of the places before `end` whose tests pass the character
abbrev pub IsDigestBefore : List Instruction → ℕ → ℕ → ℕ → ℕ → Type 0
IsDigestBefore code c seed zero digest = digest ≡ seed
IsDigestBefore code c seed (suc at) digest = (before : ℕ) × IsDigestBefore code c seed at before
    × ((PassesAt code at c × (digest ≡ stirred before at)) ⊎ ((PassesAt code at c → ⊥) × (digest ≡ before)))

abbrev pub IsDigestOf : List Instruction → List Instruction → ℕ → ℕ → Type 0
IsDigestOf code other c digest = (middle : ℕ) × IsDigestBefore code c 1 (length code) middle
    × IsDigestBefore other c middle (length other) digest

-- the letters are unlike, and these are their digests, in their order
pub record AreKeptLetters (code other : List Instruction) (letters digests : List ℕ) : Type 0 where
  pub unlike : AreUnlike code other letters
  pub long : length digests ≡ length letters
  pub of : (k : ℕ) → k < length letters
      → IsDigestOf code other (slice_index letters k) (slice_index digests k)
