-- How calls that compare two expressions, or what lies at two handles, end.
use Rattle.std.specs.Prelude.{◌≡◌, ◌≤◌, ◌*◌, ◌⊎◌, ℕ, ℤ, pos, neg_ℤ, List, Result, Ok, Err, IsUtf8, chars}
use Rattle.std.specs.Prelude.{length, ⊤}
use Rattle.wax.specs.{Comparing.{IsPath, IsShortest, ReachesMore, SelectsTexts}, GlobView.GlobView}
use Rattle.wax.specs.{Matching.Instruction, declared.Texts.Texts}
use Rattle.wax_c.specs.{GlobHandles.{no_span, span_of}, Numbers.error_number}
use Rattle.wax_c.specs.{Outcomes.{Fills, IsGlobOf, IsNoGlob, Output}, declared.comparing.Finding.Finding}
use Rattle.wax_c.specs.declared.comparing.Finding.TheVariants.{Nothing, Written, Unknown}
use Rattle.wax_c.specs.declared.error.CallError.{CallError}
use Rattle.wax_c.specs.declared.error.CallError.TheVariants.{Build, NotText, NoRoom}
use Rattle.wax_c.specs.declared.globs.WaxSpan.{WaxSpan}

-- a path, as walks have them, that both select; only the first one; exactly one of both
abbrev pub IsOfBoth : (List ℕ → Type 0) → (List ℕ → Type 0) → List ℕ → Type 0
IsOfBoth Selects Selects' path = IsPath path × Selects path × Selects' path

abbrev pub IsOfFirstOnly : (List ℕ → Type 0) → (List ℕ → Type 0) → List ℕ → Type 0
IsOfFirstOnly Selects Selects' path = IsPath path × Selects path × (Selects' path → ⊥)

abbrev pub IsOfOneOnly : (List ℕ → Type 0) → (List ℕ → Type 0) → List ℕ → Type 0
IsOfOneOnly Selects Selects' path =
    IsPath path × ((Selects path × (Selects' path → ⊥)) ⊎ ((Selects path → ⊥) × Selects' path))

-- more is reached than so many states allow, of two programs that select these texts
abbrev pub SearchTakesMore : ℕ → (List ℕ → Type 0) → (List ℕ → Type 0) → Type 0
SearchTakesMore most Selects Selects' = (code : List Instruction) × (code' : List Instruction)
    × SelectsTexts Selects code × SelectsTexts Selects' code' × ReachesMore code code' Texts.Paths most

-- the bytes of a shortest path that is wanted
abbrev pub IsShortestPath : (List ℕ → Type 0) → List ℕ → Type 0
IsShortestPath Wanted bytes = IsUtf8 bytes × IsShortest Wanted (chars bytes)

-- there is no such path; or the output begins with a shortest one; or this takes too much
abbrev pub Finds : (List ℕ → Type 0) → Type 0 → List ℕ → Output → Result Finding CallError → Type 0
Finds Wanted TakesTooMuch before output (Ok Nothing) = (path : List ℕ) → Wanted path → ⊥
Finds Wanted TakesTooMuch before output (Ok Written) =
    Fills (IsShortestPath Wanted) before output (Ok tt)
Finds Wanted TakesTooMuch before output (Ok Unknown) = TakesTooMuch
Finds Wanted TakesTooMuch before output (Err error) =
    Fills (IsShortestPath Wanted) before output (Err error)

-- unless a path is written, the output is as before, and no byte counts as written unless it is too small
abbrev pub KeepsUnlessFound : List ℕ → Output → Result Finding CallError → Type 0
KeepsUnlessFound before output (Ok Nothing) = (output.bytes ≡ before) × (output.written ≡ 0)
KeepsUnlessFound before output (Ok Written) = ⊤
KeepsUnlessFound before output (Ok Unknown) = (output.bytes ≡ before) × (output.written ≡ 0)
KeepsUnlessFound before output (Err (Build error)) = (output.bytes ≡ before) × (output.written ≡ 0)
KeepsUnlessFound before output (Err NotText) = (output.bytes ≡ before) × (output.written ≡ 0)
KeepsUnlessFound before output (Err NoRoom) = output.bytes ≡ before

-- which expression has an error, 0 or 1, or 2 if none has; and the place of the error
pub record Fault : Type 0 where
  pub which : ℕ
  pub span : WaxSpan

-- what a call returns of two expressions: why the first one that has an error builds no glob, or what the
-- call returns of both globs
pub data OfTwo {A : Type 0} (e e' : List ℕ) (OfGlobs : GlobView → GlobView → Result A CallError → Type 0)
    (which : ℕ) (outcome : Result A CallError) : Type 0 where
  built : (g g' : GlobView) → IsGlobOf e g → IsGlobOf e' g' → which ≡ 2 → OfGlobs g g' outcome
      → OfTwo e e' OfGlobs which outcome
  no_first : (error : CallError) → IsNoGlob e error → which ≡ 0 → outcome ≡ Err error
      → OfTwo e e' OfGlobs which outcome
  no_second : (g : GlobView) → IsGlobOf e g → (error : CallError) → IsNoGlob e' error → which ≡ 1
      → outcome ≡ Err error → OfTwo e e' OfGlobs which outcome

-- the place of the error, if there is one
abbrev pub span_in : {A : Type 0} → Result A CallError → WaxSpan
span_in (Ok found) = no_span
span_in (Err error) = span_of (Err error)

-- 0 for nothing, 1 for a path that is written, 2 if it isn't known, or minus the number of an error
abbrev pub finding_number : Result Finding CallError → ℤ
finding_number (Ok Nothing) = pos 0
finding_number (Ok Written) = pos 1
finding_number (Ok Unknown) = pos 2
finding_number (Err error) = neg_ℤ (error_number error)

-- the number is that of such an outcome, with the expression and the place of its error
abbrev pub SearchEnds : List ℕ → List ℕ → (GlobView → GlobView → Result Finding CallError → Type 0)
    → Fault → ℤ → Type 0
SearchEnds e e' OfGlobs fault number =
    (outcome : Result Finding CallError) × OfTwo e e' OfGlobs fault.which outcome
    × (fault.span ≡ span_in outcome) × (number ≡ finding_number outcome)

-- ---- calls that follow two handles

-- the number is that of such an outcome, and an output of 4 bytes for each state is large enough
abbrev pub FindsAs : (List ℕ → Type 0) → Type 0 → ℕ → List ℕ → Output → ℤ → Type 0
FindsAs Wanted TakesTooMuch most before output number =
    (outcome : Result Finding CallError) × Finds Wanted TakesTooMuch before output outcome
    × KeepsUnlessFound before output outcome × (number ≡ finding_number outcome)
    × (4 * most ≤ length before → number ≡ neg_ℤ (pos 21) → ⊥)

abbrev pub OverlapAs : (List ℕ → Type 0) → (List ℕ → Type 0) → ℕ → List ℕ → Output → ℤ → Type 0
OverlapAs Selects Selects' most =
    FindsAs (IsOfBoth Selects Selects') (SearchTakesMore most Selects Selects') most

abbrev pub DifferenceAs : (List ℕ → Type 0) → (List ℕ → Type 0) → ℕ → List ℕ → Output → ℤ → Type 0
DifferenceAs Selects Selects' most =
    FindsAs (IsOfFirstOnly Selects Selects') (SearchTakesMore most Selects Selects') most

abbrev pub CompareAs : (List ℕ → Type 0) → (List ℕ → Type 0) → ℕ → List ℕ → Output → ℤ → Type 0
CompareAs Selects Selects' most =
    FindsAs (IsOfOneOnly Selects Selects') (SearchTakesMore most Selects Selects') most
