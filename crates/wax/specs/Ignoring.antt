-- Ignore lists.
use Rattle.std.specs.{Prelude.{◌≡◌, ℕ, false, ◌++◌, List, ◌∷◌, chars, ⊤}, List.AllZip}
use Rattle.wax_exclude.specs.Lines.{Written}
use Rattle.wax_lines.specs.Lines.{WritesMeant}
use Rattle.wax_token.specs.Reads.{Span}
use Rattle.wax_walk.specs.{Ruled.ruled_view, View.{IsSeenAs, WalkView}}
use Rattle.wax.specs.{Exclusions.{FitsAlone, NoExclusion}, declared.ignoring.IgnoreError.IgnoreError}
use Rattle.wax.specs.declared.ignoring.IgnoreError.TheVariants.{BadLine, Memory}
use Rattle.wax.specs.declared.ignoring.IgnoreList.{IgnoreList}
use Rattle.wax_rule.specs.{Expressions.{Refuses, Spells}, declared.error.build_error.BuildError.BuildError}
pub use Rattle.wax_exclude.specs.Deciding.{DecidingLineDecides, IsDecidingLine, IsLastMatch, LastMatchDecides}
pub use Rattle.wax_exclude.specs.Deciding.{SaysLines, ignores_at, ignores_if}
pub use Rattle.wax_exclude.specs.Ignored.{IgnoresBelow, Line, ignore_mark, is_ignored}
pub use Rattle.wax_exclude.specs.Kept.{KeepsUnignored, PlainRequest, unignored_request}
pub use Rattle.wax_exclude.specs.Length.{alternatives_length, list_length}
pub use Rattle.wax_exclude.specs.{Lines.{written_lines, written_of}, Unignored.{GivesUnignored, LosesIgnored}}
use Rattle.wax_rule.specs.declared.error.build_error.BuildError.TheVariants as build

-- The line that is written so: its glob is the only tree that its expression spells, which fits.
pub record IsReadAs (written : Written) (line : Line Span) : Type 0 where
  pub ignores : line.ignores ≡ written.ignores
  pub glob : FitsAlone (Spells (chars written.expression)) line.glob

-- why a line isn't read
abbrev pub IsUnread : Written → BuildError → Type 0
IsUnread written =
    NoExclusion (Spells (chars written.expression)) (Refuses (chars written.expression))

-- these lines don't ignore the text
abbrev pub IsUnignored : List (Line Span) → List ℕ → Type 0
IsUnignored lines s = is_ignored lines s ≡ false

-- the text and a line feed if the list doesn't ignore it, else nothing
abbrev pub WritesUnignored : IgnoreList → List ℕ → List ℕ → Type 0
WritesUnignored list s out = WritesMeant (IsUnignored list) s out

-- the list of this text: its lines are exactly those that aren't skipped, in order
abbrev pub IsListOf : List ℕ → IgnoreList → Type 0
IsListOf text list = AllZip IsReadAs (written_lines text) list

-- The first line that isn't read has this number, and this is why.
pub record IsFirstUnread (text : List ℕ) (number : ℕ) (error : BuildError) : Type 0 where
  pub before : List Written
  pub lines : List (Line Span)
  pub each : AllZip IsReadAs before lines
  pub line : Written
  pub number_is : line.number ≡ number
  pub unread : IsUnread line error
  pub no_want : ¬ (error ≡ build.Memory)
  pub after : List Written
  pub all : written_lines text ≡ before ++ line ∷ after

-- why a text is no list; nothing is said where memory was refused
abbrev pub IsNoList : List ℕ → IgnoreError → Type 0
IsNoList text (BadLine number error) = IsFirstUnread text number error
IsNoList text Memory = ⊤

-- the number of the refusal
abbrev pub refusal_number : IgnoreError → ℕ
refusal_number (BadLine number error) = 21
refusal_number Memory = 10

-- the error of a line
abbrev pub refused_at : ℕ → BuildError → IgnoreError
refused_at number build.Memory = Memory
refused_at number error = BadLine number error

-- one walk is seen as the other without what these lines ignore
abbrev pub IsWalkIgnoring : {D : Type 0} → List (Line Span) → WalkView D → WalkView D → Type 0
IsWalkIgnoring lines inner outer = IsSeenAs (ruled_view inner (ignore_mark lines) false) outer
