-- Which texts a program accepts.
use Rattle.std.specs.Prelude.{◌≡◌, ◌≢◌, ℕ, zero, suc, ◌+◌, ◌-◌, ◌≤◌, true, ◌⊎◌, List, [], ◌∷◌, length, Some}
use Rattle.std.specs.Prelude.{slice_get, ⊤}
use Rattle.wax_program.specs.declared.instruction.Test.{Test}
use Rattle.wax_program.specs.declared.instruction.Test.TheVariants.{Char, Folded, Class, NotSlash, Any, Never}
use Rattle.wax_program.specs.declared.instruction.Instruction.{Instruction}
use Rattle.wax_program.specs.declared.instruction.Instruction.TheVariants.{Check, Repeat, Components, Fork}
use Rattle.wax_program.specs.declared.instruction.Instruction.TheVariants.{Jump, Back, End}
use Rattle.unicode.specs.CaseFolding.{simple_fold}
use Rattle.wax_token.specs.Meaning.{in_class}

-- the character passes the test
abbrev pub PassesTest : Test → ℕ → Type 0
PassesTest (Char d) c = c ≡ d
PassesTest (Folded d) c = d ≡ simple_fold c
PassesTest (Class k) c = in_class k.0 k.1 c ≡ true
PassesTest NotSlash c = c ≢ 47
PassesTest Any c = ⊤
PassesTest Never c = ⊥

-- the mark of the pattern with this number, which stands after a text: no character is so great
abbrev pub mark : ℕ → ℕ
mark number = 1114112 + number

-- one instruction at pc, where `Then` says what is accepted from a place on
abbrev pub Moves : Instruction → (ℕ → List ℕ → Type 0) → ℕ → List ℕ → Type 0
Moves (Check t) Then pc [] = ⊥
Moves (Check t) Then pc (c ∷ s) = PassesTest t c × Then (pc + 1) s
Moves (Repeat t) Then pc [] = Then (pc + 1) []
Moves (Repeat t) Then pc (c ∷ s) = Then (pc + 1) (c ∷ s) ⊎ (PassesTest t c × Then pc s)
Moves Components Then pc [] = ⊥
Moves Components Then pc (c ∷ s) = Then pc s ⊎ ((c ≡ 47) × Then (pc + 1) s)
Moves (Fork n) Then pc s = Then (pc + 1) s ⊎ Then (pc + 1 + n) s
Moves (Jump n) Then pc s = Then (pc + 1 + n) s
Moves (Back n) Then pc s = Then (pc - n) s
Moves (End low high) Then pc s = (number : ℕ) × (low ≤ number) × (number ≤ high) × (s ≡ mark number ∷ [])

-- from pc on the text is accepted in at most n steps: it has to end where the program does
abbrev pub AcceptsIn : List Instruction → ℕ → ℕ → List ℕ → Type 0
AcceptsIn code zero pc s = ⊥
AcceptsIn code (suc n) pc s = ((pc ≡ length code) × (s ≡ []))
    ⊎ ((i : Instruction) × (slice_get code pc ≡ Some i) × Moves i (AcceptsIn code n) pc s)

-- from pc on the text is accepted
abbrev pub Accepts : List Instruction → ℕ → List ℕ → Type 0
Accepts code pc s = (n : ℕ) × AcceptsIn code n pc s
