-- Which characters are marked, since tests distinguish them from others.
use Rattle.std.specs.Prelude.{◌≡◌, ◌<◌, ℕ, Bool, true, Contains, IfSome, List, Some, get_or, nat_lt}
use Rattle.std.specs.{Prelude.{slice_get, ⊤}, List.list_all}
use Rattle.unicode.specs.CaseFolding.{fold_pairs}
use Rattle.wax_token.specs.declared.token.Archetype.{Archetype}
use Rattle.wax_token.specs.declared.token.Archetype.TheVariants.{Character, Range}
use Rattle.wax_program.specs.{declared.instruction.Instruction.Instruction, declared.instruction.Test.Test}
use Rattle.wax_program.specs.declared.instruction.Test.TheVariants.{Char, Folded, Class, NotSlash, Any, Never}
use Rattle.wax_program.specs.{Places.HoldsPlace, Tests.test_of}

-- what was marked still is
abbrev pub KeepsMarked : List Bool → List Bool → Type 0
KeepsMarked old new = (c : ℕ) → HoldsPlace old c → HoldsPlace new c

-- the character is marked, if it can be
abbrev pub IsMarkedBelow : List Bool → ℕ → Type 0
IsMarkedBelow marks c = c < 131072 → HoldsPlace marks c

-- only ASCII characters are listed
abbrev pub lists_ascii : Archetype → Bool
lists_ascii (Character d) = nat_lt d 128
lists_ascii (Range low high) = nat_lt high 128

-- each character that the test names is ASCII or marked
abbrev pub MarksTest : List Bool → Test → Type 0
MarksTest marks (Char d) = IsMarkedBelow marks d
MarksTest marks (Folded d) = (d < 131072) × IsMarkedBelow marks d
MarksTest marks (Class k) = list_all lists_ascii k.1 ≡ true
MarksTest marks NotSlash = ⊤
MarksTest marks Any = ⊤
MarksTest marks Never = ⊤

-- this holds of all instructions before a place
abbrev pub MarksBefore : List Instruction → ℕ → List Bool → Type 0
MarksBefore code end marks =
    (k : ℕ) (i : Instruction) → k < end → slice_get code k ≡ Some i → IfSome (test_of i) (MarksTest marks)

-- each other character with a folding that was marked is marked
abbrev pub MarksFoldings : List Bool → List Bool → Type 0
MarksFoldings old new =
    (a b : ℕ) → Contains fold_pairs (a, b) → b < 131072 → HoldsPlace old b → IsMarkedBelow new a

-- this holds of the pairs before an index
abbrev pub MarksPairs : List (ℕ × ℕ) → ℕ → List Bool → List Bool → Type 0
MarksPairs pairs end old new = (k : ℕ) → k < end → (get_or pairs k (0, 0)).1 < 131072
    → HoldsPlace old (get_or pairs k (0, 0)).1 → IsMarkedBelow new (get_or pairs k (0, 0)).0
