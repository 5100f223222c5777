-- Lines of ignore lists of which it wasn't found whether they decide anything, since that takes too much.
use Rattle.std.specs.Prelude.{◌≡◌, ◌⊎◌, ◌<◌, ◌∷◌, [], ℕ, All, List, Some, Contains, length, slice_get}
use Rattle.std.specs.List.{AllZip}
use Rattle.wax_compare.specs.{Limit.{AllDiffer, KeepsLimitBy}, declared.wanted.Texts.TheVariants.Paths}
use Rattle.wax_compare.specs.declared.wanted.Wanted.{Wanted}
use Rattle.wax_exclude.specs.{Idle.LineMeans, Ignored.Line, declared.idle.IdleLine.IdleLine}
use Rattle.wax_exclude.specs.declared.idle.IdleReason.TheVariants.{Unknown}
use Rattle.wax_token.specs.{Cost.program_length, Reads.Span, Syntax.{Tree, alternation}, Words.trees}
use Rattle.wax_compare.specs.declared.wanted.Comparison.TheVariants as comparison

-- one of the lines with these indexes means the text
abbrev pub SomeLineMeans : List (Line Span) → List ℕ → List ℕ → Type 0
SomeLineMeans lines indexes s = (index : ℕ) × Contains indexes index × LineMeans lines index s

-- the tree is the glob of the line with this index
pub record IsGlobAt (lines : List (Line Span)) (index : ℕ) (glob : Tree Span) : Type 0 where
  pub line : Line Span
  pub is : slice_get lines index ≡ Some line
  pub glob_is : glob ≡ line.glob

-- the trees are the globs of the lines with these indexes
abbrev pub AreGlobsAt : List (Line Span) → List ℕ → List (Tree Span) → Type 0
AreGlobsAt lines indexes globs = AllZip (IsGlobAt lines) indexes globs

-- a program of what one of these lines means has more than 1,048,576 instructions
pub record AreTooLarge (lines : List (Line Span)) (indexes : List ℕ) : Type 0 where
  pub globs : List (Tree Span)
  pub at : AreGlobsAt lines indexes globs
  pub large : 1048576 < program_length (alternation (0, 0) (trees globs))

-- A comparison of the line with some of the others took more states than the limit, or too large a program.
pub record IsUndecided (lines : List (Line Span)) (most index : ℕ) : Type 0 where
  pub others : List ℕ
  pub within : All (λ k. k < length lines) others
  pub differ : AllDiffer others
  pub wanted : Wanted
  pub took_too_much : AreTooLarge lines (index ∷ []) ⊎ (AreTooLarge lines others
      ⊎ KeepsLimitBy (LineMeans lines index) (SomeLineMeans lines others) wanted Paths most
      comparison.Unknown)

-- this holds of each of these lines whose reason isn't known
abbrev pub AreUndecided : List (Line Span) → ℕ → List IdleLine → Type 0
AreUndecided lines most idle = (k : ℕ) (x : IdleLine) → slice_get idle k ≡ Some x → x.reason ≡ Unknown
    → IsUndecided lines most x.index
