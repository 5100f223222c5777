-- How calls of sets end.
use Rattle.std.specs.Prelude.{◌≡◌, ◌↔◌, ◌<◌, ℕ, ℤ, Bool, IsTrue, List, [], ◌∷◌, length, take, drop, Some}
use Rattle.std.specs.{Prelude.{None, slice_get, Result, Ok, Err, IsUtf8, chars}, List.AllZip}
use Rattle.wax.specs.{GlobView.GlobView, Language.{BuildError, Memory, Span, Tree}}
use Rattle.wax.specs.{Matching.{AreMatches, MeansBelow, MeansText}, Patterns.{IsAnyOf, LacksMemory, NoSet}}
use Rattle.wax_c.specs.{GlobHandles.span_of, Numbers.status_number, Outcomes.{HoldsFirst, IsGlobOf, IsNoGlob}}
use Rattle.wax_c.specs.declared.error.CallError.{CallError}
use Rattle.wax_c.specs.declared.error.CallError.TheVariants.{Build, NotText, NoRoom}
use Rattle.wax_c.specs.{declared.globs.WaxSpan.WaxSpan, declared.set_handle.SetHandle.SetHandle}
use denote.RawPtr.{null_ptr}

-- parts of these bytes, one after another, each of so many bytes, or of those that are left
abbrev pub cut_each : List ℕ → List ℕ → List (List ℕ)
cut_each bytes [] = []
cut_each bytes (n ∷ ns) = take n bytes ∷ cut_each (drop n bytes) ns

-- the glob's tree
abbrev pub IsTreeOf : GlobView → Tree Span → Type 0
IsTreeOf g t = t ≡ g.tree

-- The set of the globs of these patterns, each as its bytes.
pub record IsSetOf (patterns : List (List ℕ)) (set : Tree Span) : Type 0 where
  pub globs : List GlobView
  pub each : AllZip IsGlobOf patterns globs
  pub any : IsAnyOf IsTreeOf globs set

-- The first pattern that builds no glob has this index, and this is why.
pub record IsFirstUnbuilt (patterns : List (List ℕ)) (index : ℕ) (error : CallError) : Type 0 where
  pub globs : List GlobView
  pub each : AllZip IsGlobOf (take index patterns) globs
  pub pattern : List ℕ
  pub pattern_is : slice_get patterns index ≡ Some pattern
  pub unbuilt : IsNoGlob pattern error

-- Each pattern builds a glob, and this is why the globs make no set: it would cost too much.
pub record MakeNoSet (patterns : List (List ℕ)) (error : BuildError) : Type 0 where
  pub globs : List GlobView
  pub each : AllZip IsGlobOf patterns globs
  pub no_set : NoSet IsTreeOf (λ g. LacksMemory) globs error

-- Why these patterns make no set, with the index of the pattern; their number if it is due to none of them.
pub data IsNoSet (patterns : List (List ℕ)) (index : ℕ) (error : CallError) : Type 0 where
  unbuilt : IsFirstUnbuilt patterns index error → IsNoSet patterns index error
  no_set : (why : BuildError) → error ≡ Build why → MakeNoSet patterns why → index ≡ length patterns
      → IsNoSet patterns index error
  no_memory : error ≡ Build Memory → index ≡ length patterns → IsNoSet patterns index error

-- the handle has a set of these patterns, or it is null for this error of the pattern with this index
abbrev pub HasSet : List (List ℕ) → SetHandle → ℕ → Result (Unit {0}) CallError → Type 0
HasSet patterns handle index (Ok done) =
    (set : Tree Span) × (handle.held ≡ Some set) × IsSetOf patterns set × (index ≡ length patterns)
HasSet patterns handle index (Err error) =
    (handle.held ≡ None) × (handle.at ≡ null_ptr) × IsNoSet patterns index error

-- so it is, with the place and the number of the error
abbrev pub IsSetHandle : List (List ℕ) → SetHandle → ℕ → WaxSpan → ℤ → Type 0
IsSetHandle patterns handle index span number =
    (outcome : Result (Unit {0}) CallError) × HasSet patterns handle index outcome
    × (span ≡ span_of outcome) × (number ≡ status_number outcome)

-- the answer is whether one of the patterns matches the path
abbrev pub SaysSetMatch : Tree Span → List ℕ → Bool → Type 0
SaysSetMatch set path answer = IsTrue answer ↔ MeansText set path

-- the answer is whether one of the patterns matches the path of something below the folder
abbrev pub SaysSetGoesOn : Tree Span → List ℕ → Bool → Type 0
SaysSetGoesOn set folder answer = IsTrue answer ↔ MeansBelow set folder

-- The list begins with the indexes of the patterns that match the path, ascending, and the count is their
-- number; or the list is as before.
abbrev pub ListsMatches : Tree Span → List ℕ → List ℕ → List ℕ → ℕ → Result (Unit {0}) CallError → Type 0
ListsMatches set path before after count (Ok done) =
    IsUtf8 path × (indexes : List ℕ) × AreMatches set (chars path) indexes
    × HoldsFirst indexes before after × (count ≡ length indexes)
ListsMatches set path before after count (Err NoRoom) =
    IsUtf8 path × (indexes : List ℕ) × AreMatches set (chars path) indexes
    × (length before < length indexes) × (after ≡ before) × (count ≡ length indexes)
ListsMatches set path before after count (Err NotText) = (IsUtf8 path → ⊥) × (after ≡ before) × (count ≡ 0)
ListsMatches set path before after count (Err (Build error)) =
    (error ≡ Memory) × (after ≡ before) × (count ≡ 0)

-- the number is that of such an outcome
abbrev pub ListsMatchesAs : Tree Span → List ℕ → List ℕ → List ℕ → ℕ → ℤ → Type 0
ListsMatchesAs set path before after count number =
    (outcome : Result (Unit {0}) CallError) × ListsMatches set path before after count outcome
    × (number ≡ status_number outcome)
