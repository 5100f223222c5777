-- How calls end.
use Rattle.std.specs.Prelude.{◌≡◌, ◌↔◌, ◌<◌, ◌≤◌, ◌++◌, ℕ, ℤ, pos, neg_ℤ, Bool, IsTrue, List, length, drop}
use Rattle.std.specs.Prelude.{take, IsUtf8, chars, Result, Ok, Err, IfErr, OnErr}
use Rattle.wax.specs.{Headline.{IsGlob, MatchGlob}, GlobView.{GlobView, IsMeant}, Language.Memory}
use Rattle.wax.specs.Matching.{Filters, lines, MeansBelow, WritesMeant}
use Rattle.wax_c.specs.{Numbers.{answer_number, status_number}, declared.error.CallError.CallError}
use Rattle.wax_c.specs.declared.error.CallError.TheVariants.{Build, NotText, NoRoom}

-- a glob of these bytes, which are text
abbrev pub IsGlobOf : List ℕ → GlobView → Type 0
IsGlobOf e g = IsUtf8 e × IsGlob (chars e) g

-- why these bytes build no glob
abbrev pub IsNoGlob : List ℕ → CallError → Type 0
IsNoGlob e (Build error) = IsUtf8 e × MatchGlob (chars e) (Err error)
IsNoGlob e NotText = IsUtf8 e → ⊥
IsNoGlob e NoRoom = ⊥

-- a call decides about the path of these bytes: `Says` relates the path to the answer; nothing is said if an
-- allocation fails
abbrev pub Decides : (List ℕ → Bool → Type 0) → List ℕ → Result Bool CallError → Type 0
Decides Says path (Ok answer) = IsUtf8 path × Says (chars path) answer
Decides Says path (Err (Build error)) = error ≡ Memory
Decides Says path (Err NotText) = IsUtf8 path → ⊥
Decides Says path (Err NoRoom) = ⊥

-- the answer is whether the glob matches the path
abbrev pub SaysMatch : GlobView → List ℕ → Bool → Type 0
SaysMatch g path answer = IsTrue answer ↔ IsMeant g path

-- the answer is whether the glob matches the path of something below the folder
abbrev pub SaysGoesOn : GlobView → List ℕ → Bool → Type 0
SaysGoesOn g folder answer = IsTrue answer ↔ MeansBelow g.tree folder

-- what a call returns of an expression: why it builds no glob, or what the call returns of the glob
pub data OfExpression {A : Type 0} (e : List ℕ) (OfGlob : GlobView → Result A CallError → Type 0)
    (outcome : Result A CallError) : Type 0 where
  built : (g : GlobView) → IsGlobOf e g → OfGlob g outcome → OfExpression e OfGlob outcome
  not_built : (error : CallError) → IsNoGlob e error → outcome ≡ Err error → OfExpression e OfGlob outcome

-- the lines of the input that are text and that the glob matches, each with a line feed
abbrev pub AreLines : GlobView → List ℕ → List ℕ → Type 0
AreLines g input out = (bad : ℕ) × Filters (WritesMeant (IsMeant g)) (lines input) out bad

-- the list begins with these items now, and goes on as before
abbrev pub HoldsFirst : {A : Type 0} → List A → List A → List A → Type 0
HoldsFirst items before after =
    (length items ≤ length before) × (after ≡ items ++ drop (length items) before)

-- a list begins with these items, and the count is their number; or the list is as before
abbrev pub ListsAll : {A : Type 0} → List A → List A → List A → ℕ → Result (Unit {0}) CallError → Type 0
ListsAll items before after count (Ok done) = HoldsFirst items before after × (count ≡ length items)
ListsAll items before after count (Err NoRoom) =
    (length before < length items) × (after ≡ before) × (count ≡ length items)
ListsAll items before after count (Err NotText) = ⊥
ListsAll items before after count (Err (Build error)) = (error ≡ Memory) × (after ≡ before) × (count ≡ 0)

-- the number is that of such an outcome
abbrev pub ListsAllAs : {A : Type 0} → List A → List A → List A → ℕ → ℤ → Type 0
ListsAllAs items before after count number =
    (outcome : Result (Unit {0}) CallError) × ListsAll items before after count outcome
    × (number ≡ status_number outcome)

-- What a call leaves of an output and of the number of bytes written.
pub record Output : Type 0 where
  pub bytes : List ℕ
  pub written : ℕ

-- the output begins with such bytes, and goes on as before; or these are too long for it
abbrev pub Fills : (List ℕ → Type 0) → List ℕ → Output → Result (Unit {0}) CallError → Type 0
Fills Wanted before output (Ok done) =
    Wanted (take output.written output.bytes) × (output.written ≤ length output.bytes)
    × (drop output.written output.bytes ≡ drop output.written before)
Fills Wanted before output (Err NoRoom) =
    (out : List ℕ) × Wanted out × (output.written ≡ length out) × (length output.bytes < output.written)
Fills Wanted before output (Err (Build error)) = error ≡ Memory
Fills Wanted before output (Err NotText) = ⊥

-- the number is that of an outcome that this says of a glob of the expression, or that there is none
abbrev pub AnswersAs : List ℕ → (GlobView → Result Bool CallError → Type 0) → ℤ → Type 0
AnswersAs e OfGlob number =
    (outcome : Result Bool CallError) × OfExpression e OfGlob outcome × (number ≡ answer_number outcome)

abbrev pub Ends : List ℕ → (GlobView → Result (Unit {0}) CallError → Type 0) → ℤ → Type 0
Ends e OfGlob number =
    (outcome : Result (Unit {0}) CallError) × OfExpression e OfGlob outcome × (number ≡ status_number outcome)

-- the number is that of an outcome for the path
abbrev pub DecidesAs : (List ℕ → Bool → Type 0) → List ℕ → ℤ → Type 0
DecidesAs Says path number =
    (outcome : Result Bool CallError) × Decides Says path outcome × (number ≡ answer_number outcome)

-- after an error the output is as before, and no byte counts as written unless it is too small
abbrev pub KeepsAfterError : {A : Type 0} → List ℕ → Output → Result A CallError → Type 0
KeepsAfterError before output outcome =
    OnErr outcome (output.bytes ≡ before)
    × IfErr outcome (λ error. (error ≡ NoRoom → ⊥) → output.written ≡ 0)

-- the output begins with such bytes, or it is as before; and the number is that of this outcome
abbrev pub FillsAs : (List ℕ → Type 0) → List ℕ → Output → ℤ → Type 0
FillsAs Wanted before output number =
    (outcome : Result (Unit {0}) CallError) × Fills Wanted before output outcome
    × KeepsAfterError before output outcome × (number ≡ status_number outcome)

-- so it is, and an output of so many bytes is large enough
abbrev pub FillsWithin : ℕ → (List ℕ → Type 0) → List ℕ → Output → ℤ → Type 0
FillsWithin most Wanted before output number =
    FillsAs Wanted before output number × (most ≤ length before → number ≡ neg_ℤ (pos 21) → ⊥)

-- what a call returns of the characters of these bytes, or that they aren't text
pub data OfText {A : Type 0} (bytes : List ℕ) (OfCharacters : List ℕ → Result A CallError → Type 0)
    (outcome : Result A CallError) : Type 0 where
  is_text : IsUtf8 bytes → OfCharacters (chars bytes) outcome → OfText bytes OfCharacters outcome
  no_text : (IsUtf8 bytes → ⊥) → outcome ≡ Err NotText → OfText bytes OfCharacters outcome

-- the same for bytes that are computed of the characters of a text
abbrev pub FillsOfText : List ℕ → (List ℕ → List ℕ → Type 0) → List ℕ → Output → ℤ → Type 0
FillsOfText text Wanted before output number =
    (outcome : Result (Unit {0}) CallError)
    × OfText text (λ characters. Fills (Wanted characters) before output) outcome
    × KeepsAfterError before output outcome × (number ≡ status_number outcome)
