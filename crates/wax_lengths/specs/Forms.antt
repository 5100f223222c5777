-- Which texts a form takes, and how often it looks at a character.
use Rattle.std.specs.Prelude.{◌≡◌, ◌⊎◌, ℕ, ◌-◌, ◌≤◌, max, Bool, true, false, List, [], ◌∷◌, ⊤, length, Option}
use Rattle.unicode.specs.CaseFolding.{simple_fold}
use Rattle.wax_program.specs.{Machine.{Accepts, PassesTest}, declared.instruction.Instruction.Instruction}
use Rattle.wax_program.specs.declared.instruction.Test.{Test}
use Rattle.wax_query.specs.Ranges.{AtMost}
use Rattle.wax_token.specs.Meaning.{HasNoSlash, TreeMeans}
use Rattle.wax_lengths.specs.declared.form.Form.{Form}
use Rattle.wax_lengths.specs.declared.form.Form.TheVariants as form

-- the character is the letter, or with the flag has it as its folding
abbrev pub IsLetter : Bool → ℕ → ℕ → Type 0
IsLetter false letter c = c ≡ letter
IsLetter true letter c = letter ≡ simple_fold c

-- the characters are the letters
abbrev pub SpelledBy : Bool → List ℕ → List ℕ → Type 0
SpelledBy folded [] [] = ⊤
SpelledBy folded [] (c ∷ x) = ⊥
SpelledBy folded (letter ∷ letters) [] = ⊥
SpelledBy folded (letter ∷ letters) (c ∷ x) = IsLetter folded letter c × SpelledBy folded letters x

-- each character passes the test
abbrev pub EachPasses : Test → List ℕ → Type 0
EachPasses test [] = ⊤
EachPasses test (c ∷ x) = PassesTest test c × EachPasses test x

-- so many characters, each of which passes the test
abbrev pub IsRunOf : Test → ℕ → Option ℕ → List ℕ → Type 0
IsRunOf test low high x = EachPasses test x × (low ≤ length x) × AtMost (length x) high

-- the form takes the text
abbrev pub TakenBy : Form → List ℕ → Type 0
TakenBy (form.One test) x = (c : ℕ) × (x ≡ c ∷ []) × PassesTest test c
TakenBy (form.Text letters folded) x = SpelledBy folded letters.items x
TakenBy form.Name x = HasNoSlash x
TakenBy form.SlashOrNothing x = (x ≡ []) ⊎ (x ≡ 47 ∷ [])
TakenBy (form.Tree sides rooted) x = TreeMeans sides.before sides.after rooted x
TakenBy (form.Run test low high) x = IsRunOf test.value low high x
TakenBy (form.Coded program) x = Accepts program.0 0 x

-- how much a program comes to: its length without the last 1, or its instructions where these are more
abbrev pub program_size : List Instruction × ℕ → ℕ
program_size program = max (length program.0) (program.1 - 1)

-- how often a character is looked at by the form, at most
abbrev pub form_size : Form → ℕ
form_size (form.One test) = 1
form_size (form.Text letters folded) = length letters.items
form_size form.Name = 1
form_size form.SlashOrNothing = 1
form_size (form.Tree sides rooted) = 2
form_size (form.Run test low high) = 1
form_size (form.Coded program) = program_size program
