-- Which cuts tests need.
use Rattle.std.specs.Prelude.{◌≡◌, ◌+◌, ◌<◌, ◌≤◌, ℕ, List, Some, IfSome, Contains, All, slice_get}
use Rattle.std.specs.{Prelude.{slice_index, slice_index_or, ⊤}, Char.IsScalar, List.Sorted.IsNonDecreasing}
use Rattle.wax_compare.specs.Cuts.{CutApart, SameBlock}
use Rattle.unicode.specs.CaseFolding.{fold_pairs}
use Rattle.wax_token.specs.declared.token.Archetype.{Archetype}
use Rattle.wax_token.specs.declared.token.Archetype.TheVariants.{Character, Range}
use Rattle.wax_program.specs.{declared.instruction.Instruction.Instruction, declared.instruction.Test.Test}
use Rattle.wax_program.specs.declared.instruction.Test.TheVariants.{Char, Folded, Class, NotSlash, Any, Never}
use Rattle.wax_program.specs.Tests.{test_of}

-- what is in the one list is in the other
abbrev pub AreKept : List ℕ → List ℕ → Type 0
AreKept old new = (p : ℕ) → Contains old p → Contains new p

-- the character has a cut before it and one after it
abbrev pub IsCutOut : List ℕ → ℕ → Type 0
IsCutOut cuts c = Contains cuts c × Contains cuts (c + 1)

abbrev pub CutsArchetype : List ℕ → Archetype → Type 0
CutsArchetype cuts (Character d) = IsCutOut cuts d
CutsArchetype cuts (Range low high) = Contains cuts low × Contains cuts (high + 1)

-- the test's own characters are cut out, and a folding is listed
abbrev pub CutsTest : List ℕ → List ℕ → Test → Type 0
CutsTest cuts folded (Char d) = IsCutOut cuts d
CutsTest cuts folded (Folded d) = IsCutOut cuts d × Contains folded d
CutsTest cuts folded (Class k) = All (CutsArchetype cuts) k.1
CutsTest cuts folded NotSlash = ⊤
CutsTest cuts folded Any = ⊤
CutsTest cuts folded Never = ⊤

-- this holds of all instructions before a place
abbrev pub CutsBefore : List Instruction → ℕ → List ℕ → List ℕ → Type 0
CutsBefore code end cuts folded =
    (k : ℕ) (i : Instruction) → k < end → slice_get code k ≡ Some i
    → IfSome (test_of i) (CutsTest cuts folded)

-- each other character with one of the foldings is cut out
abbrev pub CutsFoldings : List ℕ → List ℕ → Type 0
CutsFoldings cuts folded = (a b : ℕ) → Contains fold_pairs (a, b) → Contains folded b → IsCutOut cuts a

-- cuts of two programs, ascending; each character is after one, and one is after the surrogates
pub record AreCuts (code other : List Instruction) (cuts : List ℕ) : Type 0 where
  pub first : CutApart code cuts
  pub second : CutApart other cuts
  pub slash : IsCutOut cuts 47
  pub begin : Contains cuts 0
  pub after : Contains cuts 57344
  pub rises : IsNonDecreasing cuts

-- the character is between the cut with this number and the next one
abbrev pub IsInBlock : List ℕ → ℕ → ℕ → Type 0
IsInBlock cuts i c = (slice_index cuts i ≤ c) × (c < slice_index_or cuts (i + 1) 1114112)

-- no cut is between the character and one of the letters
abbrev pub HasLetter : List ℕ → List ℕ → ℕ → Type 0
HasLetter cuts letters c = (d : ℕ) × Contains letters d × (d < 1114112) × SameBlock cuts c d

-- this holds of each character in one of the first blocks
abbrev pub Serve : List ℕ → List ℕ → ℕ → Type 0
Serve cuts letters n = (i c : ℕ) → i < n → IsScalar c → IsInBlock cuts i c → HasLetter cuts letters c
